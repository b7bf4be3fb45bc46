use Rattle.std.proofs.Common.{◌+◌, length}
use Rattle.journal.specs.declared.fault.JournalFault.TheVariants.{Full}
use Rattle.node_disk.proofs.Fitting.{fits}
use Rattle.node_disk.proofs.Spelled.{spelled_body}
use Rattle.node_disk.proofs.keeping.append.Goals as goal

pub append-requires-clause-some : goal.append-requires-clause-some
append-requires-clause-some g c = (spelled_body c.args.body.now c.requires.spelled).some

pub append-requires-clause-size : goal.append-requires-clause-size
append-requires-clause-size g c = (spelled_body c.args.body.now c.requires.spelled).most

pub append-requires-clause-entry : goal.append-requires-clause-entry
append-requires-clause-entry g c = (spelled_body c.args.body.now c.requires.spelled).entry

pub returns-clause-fits : goal.returns-clause-fits
returns-clause-fits g c =
    fits c.args.journal.now.bound (c.args.journal.now.length + length c.args.body.now + 5) c.append.result
    (Full c.args.journal.now.length (length c.args.body.now)) c.append.ensures.full
