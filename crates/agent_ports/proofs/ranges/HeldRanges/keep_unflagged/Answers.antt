use Rattle.std.proofs.Common.{◌≡◌, subst, sym, ap, ◌∙◌}
use Rattle.agent_ports.specs.Flags.{unflagged}
use Rattle.agent_ports.specs.Leases.{held_number}
use Rattle.agent_ports.specs.Order.{Ascend}
use Rattle.agent_ports.proofs.Giving.{ascend_unflagged}
use Rattle.agent_ports.proofs.ranges.HeldRanges.keep_unflagged.Goals as goal

pub replace-requires : goal.replace-requires
replace-requires c =
    subst (Ascend held_number)
    (sym (c.in_ok-items.ensures ∙ ap (unflagged c.args.flags.now) c.deref.ensures.value))
    (ascend_unflagged c.args.flags.now c.self.inside.items.items c.self.invariant.ascend)
