use Rattle.std.proofs.Common.{◌++◌, take}
use Rattle.std.specs.List.{flat_map}
use Rattle.vip_config.specs.Ways.{FindsAs, endpoint_services, same_service}
use Rattle.vip_config.proofs.services.add_endpoints.Given as goal

abbrev pub invariant-loop-endpoint : goal.invariant-loop-endpoint
invariant-loop-endpoint l =
    FindsAs same_service l.index.entries
    (l.fn.index.entries ++ flat_map (endpoint_services l.vip) (take l.endpoint-index l.endpoints))
