use Rattle.worked_run.proofs.AgentLimitsComputed.{tables_full, long_packets}
use Rattle.worked_run.proofs.agents.agent_limits.Goals as goal

pub returns-clause-full : goal.returns-clause-full
returns-clause-full c = tables_full

pub returns-clause-long : goal.returns-clause-long
returns-clause-long c = long_packets
