use Rattle.agent_spec.proofs.Through.{opens_held, stays_held}
use Rattle.agent_spec.proofs.laws.connections_are_held.Goals as goal

pub returns-clause-opened : goal.returns-clause-opened
returns-clause-opened c = opens_held

pub returns-clause-turn : goal.returns-clause-turn
returns-clause-turn c = stays_held
