use Rattle.lease_spec.proofs.PlaceLaws.{commands_ascend, one_more}
use Rattle.lease_spec.proofs.laws.slots.Goals as goal

pub returns-clause-rise : goal.returns-clause-rise
returns-clause-rise c = commands_ascend

pub returns-clause-more : goal.returns-clause-more
returns-clause-more c = one_more
