use Rattle.std.proofs.Common.{◌==◌, if◌then◌else◌, arith, sym, subst}
use Rattle.indexmap.specs.IndexMap.{get}
use Rattle.lease_spec.specs.Table.{at_phase}
use Rattle.lease_rows.specs.Rows.{same_address}
use Rattle.port_leases.specs.Store.{IsStored}
use Rattle.port_leases.proofs.Stored.{free-map, stored-same}
use Rattle.port_leases.proofs.store.Store.set_phase.Goals as goal

pub invariant_of-self : goal.invariant_of-self
invariant_of-self c =
    subst (λ rows. IsStored c.self.inside.rules rows (get same_address c.self.inside.machines) (get same_address c.self.inside.vips)) (sym c.set_phase.ensures.rows)
    (stored-same c.self.inside.rules c.self.inside.rows.rows _ _ _
    (free-map (λ row. if row.n == c.args.n then at_phase c.args.phase row else row) (λ row. grind arith) c.self.inside.rules c.self.inside.rows.rows) c.self.invariant)
