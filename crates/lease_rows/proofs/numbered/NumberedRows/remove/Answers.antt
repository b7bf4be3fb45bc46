use Rattle.std.proofs.Common.{◌≤◌, ◌-◌, ◌==◌, not, filter, IsSome, subst, sym, ap, ◌∙◌, arith}
use Rattle.lease_spec.specs.Table.{row_at}
use Rattle.lease_rows.specs.Entries.{IsCounted, live_rows, next_number, Numbered, RowsAscend}
use Rattle.lease_rows.proofs.LiveRows.{live_rows-bury, live_rows-filter}
use Rattle.lease_rows.proofs.Counted.{counted-bury, counted-compact, next-bury, next-compact, rows_ascend}
use Rattle.lease_rows.proofs.numbered.NumberedRows.remove.Goals as goal

pub invariant_of-self : goal.invariant_of-self
invariant_of-self c =
    let there = subst (λ (v : Numbered). IsSome (row_at v.rows c.args.n)) (sym c.self.view_is) c.requires in
    let buried = counted-bury c.args.n c.self.inside.entries.items c.self.inside.live c.self.invariant there in
    let left = subst (λ es. IsCounted es (c.self.inside.live - 1)) (sym c.bury.ensures.entries) buried in
    subst (λ es. IsCounted es (c.self.inside.live - 1)) (sym c.compact.ensures.items) (counted-compact c.bury.new.entries.items (c.self.inside.live - 1) left)

pub invariant_of-self-else-self-as_slice : goal.invariant_of-self-else-self-as_slice
invariant_of-self-else-self-as_slice c =
    let there = subst (λ (v : Numbered). IsSome (row_at v.rows c.args.n)) (sym c.self.view_is) c.requires in
    let buried = counted-bury c.args.n c.self.inside.entries.items c.self.inside.live c.self.invariant there in
    subst (λ es. IsCounted es (c.self.inside.live - 1)) (sym c.bury.ensures.entries) buried

pub returns-then-self-as_slice-clause-rows : goal.returns-then-self-as_slice-clause-rows
returns-then-self-as_slice-clause-rows c =
    ap live_rows c.compact.ensures.items ∙ live_rows-filter c.bury.new.entries.items ∙ ap live_rows c.bury.ensures.entries
    ∙ live_rows-bury c.args.n c.self.inside.entries.items ∙ ap (λ (v : Numbered). filter (λ row. not (row.n == c.args.n)) v.rows) c.self.view_is

pub returns-else-self-as_slice-clause-rows : goal.returns-else-self-as_slice-clause-rows
returns-else-self-as_slice-clause-rows c =
    ap live_rows c.bury.ensures.entries ∙ live_rows-bury c.args.n c.self.inside.entries.items
    ∙ ap (λ (v : Numbered). filter (λ row. not (row.n == c.args.n)) v.rows) c.self.view_is

pub returns-then-self-as_slice-clause-next : goal.returns-then-self-as_slice-clause-next
returns-then-self-as_slice-clause-next c =
    let was = ap next_number c.bury.ensures.entries ∙ next-bury c.args.n c.self.inside.entries.items ∙ ap (λ (v : Numbered). v.next) c.self.view_is in
    let less : next_number c.compact.new.self.items ≤ next_number c.bury.new.entries.items = rw c.compact.ensures.items (next-compact c.bury.new.entries.items) in
    omega (arith, was, less)

pub returns-else-self-as_slice-clause-next : goal.returns-else-self-as_slice-clause-next
returns-else-self-as_slice-clause-next c =
    let was = ap next_number c.bury.ensures.entries ∙ next-bury c.args.n c.self.inside.entries.items ∙ ap (λ (v : Numbered). v.next) c.self.view_is in
    omega (arith, was)

pub returns-then-self-as_slice-clause-ascend : goal.returns-then-self-as_slice-clause-ascend
returns-then-self-as_slice-clause-ascend c = subst (λ (v : Numbered). RowsAscend v.rows) c.self.view_is (rows_ascend c.self.inside.entries.items c.self.invariant.ascend)

pub returns-else-self-as_slice-clause-ascend : goal.returns-else-self-as_slice-clause-ascend
returns-else-self-as_slice-clause-ascend c = subst (λ (v : Numbered). RowsAscend v.rows) c.self.view_is (rows_ascend c.self.inside.entries.items c.self.invariant.ascend)
