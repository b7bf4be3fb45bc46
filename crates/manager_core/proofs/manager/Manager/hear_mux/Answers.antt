use Rattle.std.proofs.Common.{rules, ◌≤◌, length}
use Rattle.manager_core.proofs.manager.Manager.hear_mux.Goals as goal

pub invariant_of-self : goal.invariant_of-self
invariant_of-self c =
    let few : length c.hear_again.new.muxes.items ≤ 16 = search rules in (
      c.self.invariant.0,
      c.self.invariant.1,
      c.hear_again.ensures.numbered c.self.invariant.2,
      few,
      λ sound. c.hear_again.ensures.current _ _ _ c.self.invariant.2 (c.self.invariant.4 sound),
    )
