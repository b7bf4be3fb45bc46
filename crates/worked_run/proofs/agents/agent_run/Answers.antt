use Rattle.worked_run.proofs.AgentRunComputed.{agent_lines}
use Rattle.worked_run.proofs.agents.agent_run.Goals as goal

pub returns : goal.returns
returns c = agent_lines
