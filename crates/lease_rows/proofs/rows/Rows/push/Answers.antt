use Rattle.std.proofs.Common.{◌≡◌, ◌≤◌, true, nat_eq, refl, sym, subst}
use Rattle.indexmap.specs.IndexMap.{get}
use Rattle.lease_spec.specs.Free.{has_no_row, same_range}
use Rattle.lease_rows.specs.Entries.{Numbered}
use Rattle.lease_rows.specs.Rows.{IsIndexed, same_address}
use Rattle.lease_rows.specs.Links.{IsLinked}
use Rattle.lease_rows.proofs.Counted.{below_weaken}
use Rattle.lease_rows.proofs.Indexed.{indexed-push}
use Rattle.lease_rows.proofs.rows.Rows.push.Goals as goal

pub invariant_of-self : goal.invariant_of-self
invariant_of-self c =
    let free = subst (λ (v : Numbered). has_no_row v.rows c.args.row.range ≡ true) (sym c.self.view_is) c.requires.free in
    let next = subst (λ (v : Numbered). v.next ≤ c.args.row.n) (sym c.self.view_is) c.requires.next in
    let below = below_weaken c.self.inside.rows.next c.args.row.n c.self.inside.rows.rows next c.push-2.ensures.order.below in (
      subst (λ rows. IsIndexed rows (get same_range c.put_number.new.numbers) (get same_address c.count_up.new.counts)) (sym c.push-2.ensures.rows)
          (indexed-push c.self.inside.rows.rows c.args.row _ _ _ _ c.self.invariant.0 free c.put_number.ensures.number c.count_up.ensures.count),
      subst (λ rows. IsLinked rows (get nat_eq c.push.new.self.links) (get same_address c.push.new.self.ends)) (sym c.push-2.ensures.rows)
          (c.push.ensures.linked c.self.inside.rows.rows c.args.row refl refl c.push-2.ensures.order.ascend below c.self.invariant.1),
    )
