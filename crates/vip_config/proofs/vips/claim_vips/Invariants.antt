use Rattle.std.proofs.Common.{◌≡◌, take}
use Rattle.vip_config.specs.Claims.{all_claimed, claims_of}
use Rattle.vip_config.specs.Vips.{vip_claims}
use Rattle.vip_config.proofs.vips.claim_vips.Given as goal
use Rattle.wire_core.specs.Same.{same_ip}

abbrev pub invariant-loop-i : goal.invariant-loop-i
invariant-loop-i l =
    l.walk ≡ all_claimed same_ip l.fn.walk (claims_of (vip_claims l.machines.entries) 0 (take l.i l.vips))
