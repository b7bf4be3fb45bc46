use Rattle.std.proofs.Common.{take}
use Rattle.wire_core.specs.Same.{same_ip}
use Rattle.vip_config.specs.Ways.{FindsAs, all_attaches}
use Rattle.vip_config.proofs.ways.index_attached.Given as goal

abbrev pub invariant-loop-agent : goal.invariant-loop-agent
invariant-loop-agent l = FindsAs same_ip l.index.entries (all_attaches (take l.agent-index l.agents))
