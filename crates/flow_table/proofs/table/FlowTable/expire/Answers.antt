use Rattle.std.proofs.Common.{sym, subst}
use Rattle.flow_table.specs.Tables.{InOrder}
use Rattle.flow_table.proofs.TimeLaws.{order_later, order_expire}
use Rattle.flow_table.proofs.table.FlowTable.expire.Goals as goal

pub expire-requires : goal.expire-requires
expire-requires c = order_later c.self.inside.latest c.args.now c.self.inside.lists (rw (← c.self.view_is) at c.requires) c.self.invariant

pub invariant_of-self : goal.invariant_of-self
invariant_of-self c =
    let t = c.self.inside in
    let before = order_later t.latest c.args.now t.lists (rw (← c.self.view_is) at c.requires) c.self.invariant in
    subst (InOrder c.args.now) (sym c.expire.ensures) (order_expire t.lists c.args.now c.args.idle before)
