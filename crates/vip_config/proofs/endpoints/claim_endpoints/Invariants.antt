use Rattle.std.proofs.Common.{◌≡◌, take}
use Rattle.vip_config.specs.Claims.{all_claimed, claims_of}
use Rattle.vip_config.specs.Endpoints.{endpoint_claims, same_endpoint_key}
use Rattle.vip_config.proofs.endpoints.claim_endpoints.Given as goal

abbrev pub invariant-loop-j : goal.invariant-loop-j
invariant-loop-j l =
    l.walk ≡ all_claimed same_endpoint_key l.fn.walk
    (claims_of (endpoint_claims l.machines.entries l.vip) 0 (take l.j l.endpoints))
