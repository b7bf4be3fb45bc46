use Rattle.std.proofs.Common.{sym, arith, ◌∙◌}
use Rattle.port_leases.proofs.Folds.{alive-le-length, effects-bound, effects-quiet}
use Rattle.port_leases.proofs.commands.effects_room.Goals as goal

pub returns-then-some_raises : goal.returns-then-some_raises
returns-then-some_raises c =
    let bound = effects-bound c.args.store.now.rules c.args.place c.args.store.now.next c.args.value.now c.args.store.now.leases c.len.ensures.order c.requires in
    let few = alive-le-length c.args.store.now.leases.rows in
    omega (arith, bound, few, c.len.ensures.len, c.len-then-some_raises.ensures.len)

pub returns-else-some_raises : goal.returns-else-some_raises
returns-else-some_raises c =
    let bound = effects-quiet c.args.store.now.rules c.args.place c.args.value.now c.args.store.now.leases (sym c.some_raises.ensures ∙ c.if-some_raises.false) in
    omega (arith, bound, c.len-else-some_raises.ensures.len)
