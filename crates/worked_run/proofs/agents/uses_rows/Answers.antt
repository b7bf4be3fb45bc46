use Rattle.worked_run.proofs.UsesComputed.{uses, entries, moves, first_fault, peers}
use Rattle.worked_run.proofs.agents.uses_rows.Goals as goal

pub returns-clause-uses : goal.returns-clause-uses
returns-clause-uses c = uses

pub returns-clause-entries : goal.returns-clause-entries
returns-clause-entries c = entries

pub returns-clause-moves : goal.returns-clause-moves
returns-clause-moves c = moves

pub returns-clause-first_fault : goal.returns-clause-first_fault
returns-clause-first_fault c = first_fault

pub returns-clause-peers : goal.returns-clause-peers
returns-clause-peers c = peers
