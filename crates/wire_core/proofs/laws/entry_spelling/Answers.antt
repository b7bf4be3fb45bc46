use Rattle.wire_core.proofs.EntryLaws.{entry_again, entry_is}
use Rattle.wire_core.proofs.laws.entry_spelling.Goals as goal

pub returns-clause-again : goal.returns-clause-again
returns-clause-again c = λ x rest h. entry_again x rest h

pub returns-clause-spelled : goal.returns-clause-spelled
returns-clause-spelled c = λ bytes x rest h e. let is = entry_is bytes (x, rest) h e in (is.splits.joined, is.allowed)
