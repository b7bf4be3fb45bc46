use Rattle.std.proofs.Common.{◌≡◌, true, sym, subst}
use Rattle.indexmap.specs.IndexMap.{get}
use Rattle.lease_spec.specs.Free.{is_free}
use Rattle.lease_rows.specs.Rows.{same_address}
use Rattle.port_leases.specs.Store.{IsStored, StoreState}
use Rattle.port_leases.proofs.Stored.{stored-take}
use Rattle.port_leases.proofs.store.Store.take.Goals as goal

pub invariant_of-self : goal.invariant_of-self
invariant_of-self c =
    let free = subst (λ (v : StoreState). is_free v.rules v.leases.rows c.args.row.range ≡ true) (sym c.self.view_is) c.requires.free in
    subst (λ rows. IsStored c.self.inside.rules rows (get same_address c.self.inside.machines) (get same_address c.set_free.new.vips)) (sym c.push.ensures.rows)
    (stored-take c.self.inside.rules c.self.inside.rows.rows c.args.row _ _ _ c.self.invariant free c.set_free.ensures)
