use Rattle.std.proofs.Common.{◌≡◌, sym, subst, ap, ◌∙◌}
use Rattle.lease_rows.specs.Entries.{live_rows}
use Rattle.lease_rows.specs.Walks.{onward, rows_of}
use Rattle.lease_rows.proofs.Counted.{rows_ascend}
use Rattle.lease_rows.proofs.MachineRows.{next_of, onward_of}
use Rattle.lease_rows.proofs.numbered.NumberedRows.next_row_of.Goals as goal

pub returns : goal.returns
returns c =
    let entries = c.self.inside.entries.items in
    let found = c.next_row_of.ensures ∙ ap (λ es. next_of (live_rows es) c.args.machine c.args.above) c.as_slice.ensures.entries in
    subst (λ rows. rows_of rows c.args.machine c.args.above ≡ onward rows c.args.machine c.next_row_of.result) (ap (λ v. v.rows) c.self.view_is)
    (onward_of (live_rows entries) (rows_ascend entries c.self.invariant.ascend) c.args.machine c.args.above
    ∙ ap (onward (live_rows entries) c.args.machine) (sym found))
