use Rattle.std.proofs.Common.{◌≡◌, take}
use Rattle.vip_config.specs.Claims.{all_claimed, claims_of}
use Rattle.vip_config.specs.Sockets.{attach_claims}
use Rattle.vip_config.proofs.sockets.claim_attached.Given as goal
use Rattle.wire_core.specs.Same.{same_socket}

abbrev pub invariant-loop-j : goal.invariant-loop-j
invariant-loop-j l =
    l.walk ≡ all_claimed same_socket l.fn.walk (claims_of (attach_claims l.agent) 0 (take l.j l.machines))
