use Rattle.manager_spec.proofs.Written.{turn_writes}
use Rattle.manager_spec.proofs.laws.entries.Goals as goal

pub returns : goal.returns
returns c = turn_writes
