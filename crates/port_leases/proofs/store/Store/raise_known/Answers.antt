use Rattle.std.proofs.Common.{arith, sym, subst}
use Rattle.indexmap.specs.IndexMap.{get}
use Rattle.lease_spec.specs.Table.{cleared}
use Rattle.lease_rows.specs.Rows.{same_address}
use Rattle.port_leases.specs.Store.{IsStored}
use Rattle.port_leases.proofs.Stored.{free-map, stored-same}
use Rattle.port_leases.proofs.store.Store.raise_known.Goals as goal

pub invariant_of-self : goal.invariant_of-self
invariant_of-self c =
    subst (λ rows. IsStored c.self.inside.rules rows (get same_address c.self.inside.machines) (get same_address c.self.inside.vips)) (sym c.clear_lower.ensures.rows)
    (stored-same c.self.inside.rules c.self.inside.rows.rows _ _ _
    (free-map (cleared c.args.agent c.args.boot) (λ row. grind arith) c.self.inside.rules c.self.inside.rows.rows) c.self.invariant)
