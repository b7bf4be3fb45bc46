use Rattle.std.proofs.Common.{◌≡◌, take}
use Rattle.vip_config.specs.Claims.{all_claimed, claims_of}
use Rattle.vip_config.specs.Snat.{snat_claims}
use Rattle.vip_config.proofs.snat.claim_snat.Given as goal
use Rattle.wire_core.specs.Same.{same_ip}

abbrev pub invariant-loop-j : goal.invariant-loop-j
invariant-loop-j l =
    l.walk ≡ all_claimed same_ip l.fn.walk (claims_of (snat_claims l.machines.entries l.vip) 0 (take l.j l.snat))
