use Rattle.std.proofs.Common.{◌≡◌, take}
use Rattle.vip_config.specs.Claims.{all_claimed, claims_of}
use Rattle.vip_config.specs.Machines.{address_claims}
use Rattle.vip_config.proofs.machines.claim_addresses.Given as goal
use Rattle.wire_core.specs.Same.{same_ip}

abbrev pub invariant-loop-j : goal.invariant-loop-j
invariant-loop-j l =
    l.walk ≡ all_claimed same_ip l.fn.walk (claims_of (address_claims l.agent) 0 (take l.j l.machines))
