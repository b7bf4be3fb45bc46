use Rattle.std.proofs.Common.{take}
use Rattle.vip_config.specs.Ways.{FindsAs, all_services, same_service}
use Rattle.vip_config.proofs.services.index_services.Given as goal

abbrev pub invariant-loop-vip : goal.invariant-loop-vip
invariant-loop-vip l = FindsAs same_service l.index.entries (all_services (take l.vip-index l.vips))
