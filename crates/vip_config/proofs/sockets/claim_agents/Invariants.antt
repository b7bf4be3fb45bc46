use Rattle.std.proofs.Common.{◌≡◌, take}
use Rattle.vip_config.specs.Claims.{all_claimed, claims_of}
use Rattle.vip_config.specs.Sockets.{agent_claims}
use Rattle.vip_config.proofs.sockets.claim_agents.Given as goal
use Rattle.wire_core.specs.Same.{same_socket}

abbrev pub invariant-loop-i : goal.invariant-loop-i
invariant-loop-i l = l.walk ≡ all_claimed same_socket l.fn.walk (claims_of agent_claims 0 (take l.i l.agents))
