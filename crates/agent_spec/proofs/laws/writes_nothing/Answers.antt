use Rattle.agent_spec.proofs.Silent.{step_silent}
use Rattle.agent_spec.proofs.laws.writes_nothing.Goals as goal

pub returns : goal.returns
returns c = step_silent
