use Rattle.manager_spec.proofs.AgreedRows.{tick_is}
use Rattle.manager_spec.proofs.LeasedRows.{message_is, proposal_is}
use Rattle.manager_spec.proofs.laws.steps.Goals as goal

pub returns-clause-message : goal.returns-clause-message
returns-clause-message c = message_is

pub returns-clause-tick : goal.returns-clause-tick
returns-clause-tick c = tick_is

pub returns-clause-proposal : goal.returns-clause-proposal
returns-clause-proposal c = proposal_is
