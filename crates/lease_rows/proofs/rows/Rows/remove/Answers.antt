use Rattle.std.proofs.Common.{◌≡◌, ◌||◌, Some, nat_eq, sym, ap, subst, ◌∙◌}
use Rattle.indexmap.specs.IndexMap.{get}
use Rattle.lease_spec.specs.Free.{has_no_row, same_range}
use Rattle.lease_spec.specs.Table.{row_at}
use Rattle.lease_rows.specs.Entries.{Numbered}
use Rattle.lease_rows.specs.Rows.{IsIndexed, same_address}
use Rattle.lease_rows.specs.Links.{IsLinked}
use Rattle.lease_rows.proofs.Indexed.{counted_machine, free-without, indexed-without}
use Rattle.lease_rows.proofs.rows.Rows.remove.Goals as goal

pub count_down-requires : goal.count_down-requires
count_down-requires c =
    let there = subst (λ (v : Numbered). row_at v.rows c.args.row.now.n ≡ Some c.args.row.now) (sym c.self.view_is) c.requires in
    rw (c.self.invariant.0.counts c.args.row.now.machine) (counted_machine c.self.inside.rows.rows c.args.row.now there)

pub invariant_of-self : goal.invariant_of-self
invariant_of-self c =
    let there = subst (λ (v : Numbered). row_at v.rows c.args.row.now.n ≡ Some c.args.row.now) (sym c.self.view_is) c.requires in (
      subst (λ rows. IsIndexed rows (get same_range c.drop_number.new.numbers) (get same_address c.count_down.new.counts)) (sym c.remove-2.ensures.rows)
          (indexed-without c.self.inside.rows.rows c.args.row.now _ _ _ _ c.self.invariant.0 c.remove-2.ensures.ascend there c.drop_number.ensures.number c.count_down.ensures.count),
      subst (λ rows. IsLinked rows (get nat_eq c.remove.new.self.links) (get same_address c.remove.new.self.ends)) (sym c.remove-2.ensures.rows)
          (c.remove.ensures.linked c.self.inside.rows.rows c.args.row.now c.remove-2.ensures.ascend there c.self.invariant.1),
    )

pub returns-clause-free : goal.returns-clause-free
returns-clause-free c = λ r.
    let there = subst (λ (v : Numbered). row_at v.rows c.args.row.now.n ≡ Some c.args.row.now) (sym c.self.view_is) c.requires in
    ap (λ rows. has_no_row rows r) c.remove-2.ensures.rows
    ∙ free-without c.self.inside.rows.rows c.args.row.now c.remove-2.ensures.ascend there c.self.invariant.0.single r
    ∙ ap (λ (v : Numbered). same_range c.args.row.now.range r || has_no_row v.rows r) c.self.view_is
