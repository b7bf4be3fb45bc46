use Rattle.std.proofs.Common.{◌≡◌, sym, subst, ap, ◌∙◌}
use Rattle.lease_rows.specs.Entries.{Numbered, live_rows}
use Rattle.lease_rows.specs.Walks.{onward_all, row_above, rows_above}
use Rattle.lease_rows.proofs.Counted.{rows_ascend}
use Rattle.lease_rows.proofs.Walks.{onward_above}
use Rattle.lease_rows.proofs.numbered.NumberedRows.row_above.Goals as goal

pub returns-clause-walk : goal.returns-clause-walk
returns-clause-walk c =
    let entries = c.self.inside.entries.items in
    let found = c.row_above.ensures ∙ ap (λ es. row_above (live_rows es) c.args.n) c.as_slice.ensures.entries in
    subst (λ (v : Numbered). rows_above v.rows c.args.n ≡ onward_all v.rows c.row_above.result) c.self.view_is
    (onward_above (live_rows entries) (rows_ascend entries c.self.invariant.ascend) c.args.n ∙ ap (onward_all (live_rows entries)) (sym found))
