use Rattle.lease_spec.proofs.CauseLaws.{all_caused, lasts}
use Rattle.lease_spec.proofs.LifeLaws.{earlier_is_gone, stands_or_gone}
use Rattle.lease_spec.proofs.OnceLaws.{nothing_twice, own_numbers}
use Rattle.lease_spec.proofs.laws.lives.Goals as goal

pub returns-clause-caused : goal.returns-clause-caused
returns-clause-caused c = all_caused

pub returns-clause-lasts : goal.returns-clause-lasts
returns-clause-lasts c = lasts

pub returns-clause-stands : goal.returns-clause-stands
returns-clause-stands c = stands_or_gone

pub returns-clause-one_row : goal.returns-clause-one_row
returns-clause-one_row c = earlier_is_gone

pub returns-clause-numbers : goal.returns-clause-numbers
returns-clause-numbers c = own_numbers

pub returns-clause-once : goal.returns-clause-once
returns-clause-once c = nothing_twice
