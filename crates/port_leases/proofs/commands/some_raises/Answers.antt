use Rattle.std.proofs.Common.{sym, ◌∙◌}
use Rattle.port_leases.specs.Store.{may_raise}
use Rattle.port_leases.proofs.Folds.{any_here, any_more}
use Rattle.port_leases.proofs.commands.some_raises.Goals as goal

pub returns-then-raises : goal.returns-then-raises
returns-then-raises c =
    sym (any_here (may_raise c.args.store.now.leases.known) c.args.value.now c.loop-i.i _ c.command.ensures (sym c.raises.ensures ∙ c.if-raises.true))

pub loop-i-preserved : goal.loop-i-preserved
loop-i-preserved c =
    any_more (may_raise c.args.store.now.leases.known) c.args.value.now c.loop-i.i _ c.command.ensures c.loop-i.invariant (sym c.raises.ensures ∙ c.if-raises.false)
