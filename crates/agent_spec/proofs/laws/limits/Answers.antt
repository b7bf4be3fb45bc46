use Rattle.agent_spec.proofs.Sizes.{opened_fits, redirect_keeps, step_keeps}
use Rattle.agent_spec.proofs.laws.limits.Goals as goal

pub returns-clause-opened : goal.returns-clause-opened
returns-clause-opened c = opened_fits

pub returns-clause-turn : goal.returns-clause-turn
returns-clause-turn c = step_keeps

pub returns-clause-redirect : goal.returns-clause-redirect
returns-clause-redirect c = redirect_keeps
