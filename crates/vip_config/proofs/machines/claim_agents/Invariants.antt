use Rattle.std.proofs.Common.{◌≡◌, take}
use Rattle.vip_config.specs.Claims.{all_claimed, claims_of}
use Rattle.vip_config.specs.Machines.{agent_address_claims}
use Rattle.vip_config.proofs.machines.claim_agents.Given as goal
use Rattle.wire_core.specs.Same.{same_ip}

abbrev pub invariant-loop-i : goal.invariant-loop-i
invariant-loop-i l = l.walk ≡ all_claimed same_ip l.fn.walk (claims_of agent_address_claims 0 (take l.i l.agents))
