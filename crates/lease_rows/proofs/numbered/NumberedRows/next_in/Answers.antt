use Rattle.std.proofs.Common.{◌≡◌, sym, subst, ap, ◌∙◌}
use Rattle.lease_rows.specs.Entries.{Numbered, live_rows}
use Rattle.lease_rows.specs.Walks.{onward_in, rows_in}
use Rattle.lease_rows.proofs.Counted.{rows_ascend}
use Rattle.lease_rows.proofs.MachineRows.{onward_phased}
use Rattle.lease_rows.proofs.numbered.NumberedRows.next_in.Goals as goal

pub returns : goal.returns
returns c =
    let entries = c.self.inside.entries.items in
    subst (λ (v : Numbered). rows_in v.rows c.args.phase c.args.above ≡ onward_in v.rows c.args.phase c.next_in.result) c.self.view_is
    (onward_phased (live_rows entries) (rows_ascend entries c.self.invariant.ascend) c.args.phase c.args.above
    ∙ ap (onward_in (live_rows entries) c.args.phase) (sym c.next_in.ensures))
