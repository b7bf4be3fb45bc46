use Rattle.std.proofs.Common.{nat_eq, sym, subst, arith}
use Rattle.lease_spec.specs.Table.{cleared}
use Rattle.indexmap.specs.IndexMap.{get}
use Rattle.lease_spec.specs.Free.{same_range}
use Rattle.lease_rows.specs.Rows.{IsIndexed, same_address}
use Rattle.lease_rows.specs.Links.{IsLinked}
use Rattle.lease_rows.proofs.Indexed.{indexed-map}
use Rattle.lease_rows.proofs.Linked.{linked-map}
use Rattle.lease_rows.proofs.rows.Rows.clear_lower.Goals as goal

pub invariant_of-self : goal.invariant_of-self
invariant_of-self c = (
  subst (λ rows. IsIndexed rows (get same_range c.self.inside.numbers) (get same_address c.self.inside.counts)) (sym c.clear_lower.ensures.rows)
      (indexed-map (cleared c.args.agent c.args.boot) (λ row. grind arith) (λ row. grind arith) (λ row. grind arith) c.self.inside.rows.rows _ _ c.self.invariant.0),
  subst (λ rows. IsLinked rows (get nat_eq c.self.inside.links.links) (get same_address c.self.inside.links.ends)) (sym c.clear_lower.ensures.rows)
      (linked-map (cleared c.args.agent c.args.boot) (λ row. grind arith) (λ row. grind arith) c.self.inside.rows.rows _ _ c.self.invariant.1),
)
