use Rattle.std.proofs.Common.{sym, ap, ◌∙◌}
use Rattle.lease_rows.specs.Walks.{onward}
use Rattle.lease_rows.proofs.MachineRows.{onward_none, onward_some}
use Rattle.lease_rows.proofs.rows.row_with.Goals as goal

pub returns-in-Some : goal.returns-in-Some
returns-in-Some c = λ machine above number.
    onward_some c.args.rows.now.rows machine above c.in-Some.n c.row_at.ensures.ascend (sym c.in-Some.is ∙ number)
    ∙ ap (onward c.args.rows.now.rows machine) (sym c.row_at.ensures.row)

pub returns-in-None : goal.returns-in-None
returns-in-None c = λ machine above number. onward_none c.args.rows.now.rows machine above (sym c.in-None.is ∙ number)
