use Rattle.std.proofs.Common.{◌≡◌, ◌≤◌, ◌<◌, ◌+◌, ◌^◌, List, ◌∷◌, [], ◌++◌, length, subst, sym, ap, ◌∙◌, arith}
use Rattle.lease_rows.specs.declared.entries.Entry.{Entry}
use Rattle.lease_rows.specs.Entries.{InOrder, IsCounted, live_rows, next_number, Numbered}
use Rattle.lease_rows.proofs.LiveRows.{live_rows-push}
use Rattle.lease_rows.proofs.Counted.{counted-push, next-push, live-le-length, rows_in_order}
use Rattle.lease_rows.proofs.numbered.NumberedRows.push.Goals as goal

pub overflow_add-self : goal.overflow_add-self
overflow_add-self c =
    let few : length (live_rows c.self.inside.entries.items) ≤ length c.self.inside.entries.items = live-le-length c.self.inside.entries.items in
    let count : c.self.inside.live ≡ length (live_rows c.self.inside.entries.items) = c.self.invariant.count in
    omega (arith, few, count, c.self.invariant.small)

pub invariant_of-self : goal.invariant_of-self
invariant_of-self c =
    let next : next_number c.self.inside.entries.items ≤ c.args.row.n = let is = ap (λ (v : Numbered). v.next) c.self.view_is in rw is c.requires.next in
    let small = subst (λ (es : List Entry). length es < 2 ^ 63) c.push.ensures.items c.push.ensures.small in
    subst (λ es. IsCounted es (c.self.inside.live + 1)) (sym c.push.ensures.items)
    (counted-push c.self.inside.entries.items c.args.row c.self.inside.live c.self.invariant next small)

pub returns-clause-rows : goal.returns-clause-rows
returns-clause-rows c =
    ap live_rows c.push.ensures.items ∙ live_rows-push c.self.inside.entries.items c.args.row ∙ ap (λ (v : Numbered). v.rows ++ c.args.row ∷ []) c.self.view_is

pub returns-clause-next : goal.returns-clause-next
returns-clause-next c =
    let next : next_number c.self.inside.entries.items ≤ c.args.row.n = let is = ap (λ (v : Numbered). v.next) c.self.view_is in rw is c.requires.next in
    ap next_number c.push.ensures.items ∙ next-push c.self.inside.entries.items _ next

pub returns-clause-order : goal.returns-clause-order
returns-clause-order c =
    subst (λ (v : Numbered). InOrder v.rows v.next) c.self.view_is (rows_in_order c.self.inside.entries.items c.self.invariant.ascend)
