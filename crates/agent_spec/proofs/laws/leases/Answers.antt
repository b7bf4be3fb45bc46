use Rattle.agent_spec.proofs.Answering.{kept_rise, opens_apart, stays_apart}
use Rattle.agent_spec.proofs.LeaseMoves.{step_moves}
use Rattle.agent_spec.proofs.laws.leases.Goals as goal

pub returns-clause-opened : goal.returns-clause-opened
returns-clause-opened c = opens_apart

pub returns-clause-apart : goal.returns-clause-apart
returns-clause-apart c = stays_apart

pub returns-clause-rise : goal.returns-clause-rise
returns-clause-rise c = kept_rise

pub returns-clause-moves : goal.returns-clause-moves
returns-clause-moves c = step_moves
