use Rattle.std.proofs.Common.{ap, sym, subst}
use Rattle.flow_table.specs.Tables.{InOrder}
use Rattle.flow_table.proofs.TimeLaws.{order_later, order_note}
use Rattle.flow_table.proofs.table.FlowTable.note.Goals as goal

pub invariant_of-self-2 : goal.invariant_of-self-2
invariant_of-self-2 c =
    let t = c.self.inside in
    let before = order_later t.latest c.args.now t.lists (rw (← c.self.view_is) at c.requires) c.self.invariant in
    subst (InOrder c.args.now) (sym (ap (λ x. x.0) c.in_ok-noted.ensures.ok)) (order_note t.lists c.args.key.now c.args.syn c.args.chosen c.args.now before)
