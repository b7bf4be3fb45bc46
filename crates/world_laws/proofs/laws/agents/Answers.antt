use Rattle.world_laws.proofs.AgentLaws.{agents}
use Rattle.world_laws.proofs.laws.agents.Goals as goal

pub returns : goal.returns
returns c = agents
