use Rattle.std.proofs.Common.{sym}
use Rattle.manager_core.proofs.manager.Manager.orders.Goals as goal

pub invariant_of-self : goal.invariant_of-self
invariant_of-self c = (
  c.self.invariant.0,
  c.self.invariant.1,
  c.self.invariant.2,
  c.self.invariant.3,
  λ sound. rw (sym c.self.invariant.0) (c.forget.ensures.current c.self.inside.muxes.items
      (rw c.self.invariant.0 (c.self.invariant.4 sound))),
)
