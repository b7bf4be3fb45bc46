use Rattle.std.proofs.Common.{◌≡◌, take}
use Rattle.vip_config.specs.Claims.{all_claimed, claims_of}
use Rattle.vip_config.specs.Endpoints.{same_endpoint_key, vip_endpoint_claims}
use Rattle.vip_config.proofs.endpoints.claim_vips.Given as goal

abbrev pub invariant-loop-i : goal.invariant-loop-i
invariant-loop-i l =
    l.walk ≡ all_claimed same_endpoint_key l.fn.walk
    (claims_of (vip_endpoint_claims l.machines.entries) 0 (take l.i l.vips))
