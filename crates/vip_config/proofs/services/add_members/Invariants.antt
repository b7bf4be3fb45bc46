use Rattle.std.proofs.Common.{◌++◌, map, take}
use Rattle.vip_config.specs.Ways.{FindsAs, same_service, service_by}
use Rattle.vip_config.proofs.services.add_members.Given as goal

abbrev pub invariant-loop-member : goal.invariant-loop-member
invariant-loop-member l =
    FindsAs same_service l.index.entries
    (l.fn.index.entries ++ map (service_by l.vip l.endpoint) (take l.member-index l.endpoint.machines))
