use Rattle.journal.proofs.Bodies.{entry_is_body, length-entry}
use Rattle.journal.proofs.laws.entries_are_bodies.Goals as goal

pub returns-clause-bodies : goal.returns-clause-bodies
returns-clause-bodies c = entry_is_body

pub returns-clause-longest : goal.returns-clause-longest
returns-clause-longest c = length-entry
