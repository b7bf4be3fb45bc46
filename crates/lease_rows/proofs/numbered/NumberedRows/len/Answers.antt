use Rattle.std.proofs.Common.{◌≡◌, ◌≤◌, length, subst, arith}
use Rattle.lease_rows.specs.Entries.{InOrder, Numbered, live_rows}
use Rattle.lease_rows.proofs.Counted.{live-le-length, rows_in_order}
use Rattle.lease_rows.proofs.numbered.NumberedRows.len.Goals as goal

pub returns-clause-small : goal.returns-clause-small
returns-clause-small c =
    let few : length (live_rows c.self.inside.entries.items) ≤ length c.self.inside.entries.items = live-le-length c.self.inside.entries.items in
    let count : c.self.inside.live ≡ length (live_rows c.self.inside.entries.items) = c.self.invariant.count in
    omega (arith, few, count, c.self.invariant.small)

pub returns-clause-order : goal.returns-clause-order
returns-clause-order c =
    subst (λ (v : Numbered). InOrder v.rows v.next) c.self.view_is (rows_in_order c.self.inside.entries.items c.self.invariant.ascend)
