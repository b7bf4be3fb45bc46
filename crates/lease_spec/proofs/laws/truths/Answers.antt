use Rattle.lease_spec.proofs.MomentLaws.{all_true}
use Rattle.lease_spec.proofs.OutcomeLaws.{outcomes_told}
use Rattle.lease_spec.proofs.TruthLaws.{lives_in_order, rows_told}
use Rattle.lease_spec.proofs.laws.truths.Goals as goal

pub returns-clause-rows : goal.returns-clause-rows
returns-clause-rows c = rows_told

pub returns-clause-order : goal.returns-clause-order
returns-clause-order c = lives_in_order

pub returns-clause-outcomes : goal.returns-clause-outcomes
returns-clause-outcomes c = outcomes_told

pub returns-clause-moments : goal.returns-clause-moments
returns-clause-moments c = all_true
