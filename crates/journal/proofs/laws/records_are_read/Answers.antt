use Rattle.journal.proofs.Whole.{records_read}
use Rattle.journal.proofs.laws.records_are_read.Goals as goal

pub returns : goal.returns
returns c = records_read
