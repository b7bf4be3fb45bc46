use Rattle.std.proofs.Common.{◌==◌, if◌then◌else◌, nat_eq, sym, subst, arith}
use Rattle.lease_spec.specs.declared.row.Row.{Row}
use Rattle.lease_spec.specs.Table.{at_phase}
use Rattle.indexmap.specs.IndexMap.{get}
use Rattle.lease_spec.specs.Free.{same_range}
use Rattle.lease_rows.specs.Rows.{IsIndexed, same_address}
use Rattle.lease_rows.specs.Links.{IsLinked}
use Rattle.lease_rows.proofs.Indexed.{indexed-map}
use Rattle.lease_rows.proofs.Linked.{linked-map}
use Rattle.lease_rows.proofs.rows.Rows.set_phase.Goals as goal

pub invariant_of-self : goal.invariant_of-self
invariant_of-self c =
    let f : Row → Row = λ row. if row.n == c.args.n then at_phase c.args.phase row else row in (
      subst (λ rows. IsIndexed rows (get same_range c.self.inside.numbers) (get same_address c.self.inside.counts)) (sym c.set_phase.ensures.rows)
          (indexed-map f (λ row. grind arith) (λ row. grind arith) (λ row. grind arith) c.self.inside.rows.rows _ _ c.self.invariant.0),
      subst (λ rows. IsLinked rows (get nat_eq c.self.inside.links.links) (get same_address c.self.inside.links.ends)) (sym c.set_phase.ensures.rows)
          (linked-map f (λ row. grind arith) (λ row. grind arith) c.self.inside.rows.rows _ _ c.self.invariant.1),
    )
