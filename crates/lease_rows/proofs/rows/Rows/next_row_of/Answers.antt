use Rattle.std.proofs.Common.{◌≡◌, subst}
use Rattle.lease_rows.specs.Entries.{Numbered}
use Rattle.lease_rows.specs.Walks.{onward, rows_of}
use Rattle.lease_rows.proofs.rows.Rows.next_row_of.Goals as goal

pub returns-in-Some : goal.returns-in-Some
returns-in-Some c =
    let number = c.in-Some.ensures c.self.inside.rows.rows c.self.invariant.1 in
    subst (λ (v : Numbered). rows_of v.rows c.args.machine c.args.above ≡ onward v.rows c.args.machine c.row_with.result) c.self.view_is
    (c.row_with.ensures c.args.machine c.args.above number)
