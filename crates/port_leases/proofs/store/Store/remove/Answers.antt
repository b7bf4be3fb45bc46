use Rattle.std.proofs.Common.{sym, ◌∙◌}
use Rattle.port_leases.proofs.Stored.{stored-leave, stored-stay}
use Rattle.port_leases.proofs.store.Store.remove.Goals as goal

pub invariant_of-self : goal.invariant_of-self
invariant_of-self c =
    stored-leave c.self.inside.rules c.self.inside.rows.rows c.remove.new.self.rows c.args.row.now.range _ _ _ c.self.invariant (sym c.leasable.ensures ∙ c.if-leasable.true)
    c.remove.ensures.free c.set_free.ensures

pub invariant_of-self-else-leasable : goal.invariant_of-self-else-leasable
invariant_of-self-else-leasable c =
    stored-stay c.self.inside.rules c.self.inside.rows.rows c.remove.new.self.rows c.args.row.now.range _ _ c.self.invariant (sym c.leasable.ensures ∙ c.if-leasable.false) c.remove.ensures.free
