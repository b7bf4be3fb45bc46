use Rattle.journal.proofs.Whole.{file_records}
use Rattle.journal.proofs.laws.file_is_its_records.Goals as goal

pub returns : goal.returns
returns c = file_records
