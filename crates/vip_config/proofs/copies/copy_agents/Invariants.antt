use Rattle.std.proofs.Common.{◌≡◌, take}
use Rattle.vip_config.proofs.copies.copy_agents.Given as goal

abbrev pub invariant-loop-agent : goal.invariant-loop-agent
invariant-loop-agent l = l.copies.items ≡ take l.agent-index l.agents
