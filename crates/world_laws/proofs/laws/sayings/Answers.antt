-- What muxes and agents say.
use Rattle.world_laws.proofs.AgentSayings.{agent_says}
use Rattle.world_laws.proofs.MuxSayings.{mux_says}
use Rattle.world_laws.proofs.laws.sayings.Goals as goal

pub returns-clause-mux : goal.returns-clause-mux
returns-clause-mux c = mux_says

pub returns-clause-agent : goal.returns-clause-agent
returns-clause-agent c = agent_says
