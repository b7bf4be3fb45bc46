use Rattle.std.proofs.Common.{◌≡◌, take}
use Rattle.std.specs.List.{flat_map}
use Rattle.node_spec.specs.Steps.{outgoing, with_sends}
use Rattle.manager_spec.specs.Manager.{leases}
use Rattle.manager_spec.specs.Known.{running}
use Rattle.manager_spec.specs.Orders.{order_of}
use Rattle.manager_core.proofs.manager.Manager.say_orders.Given as goal

abbrev pub invariant-loop-effect : goal.invariant-loop-effect
invariant-loop-effect l = l.out ≡ with_sends (flat_map (outgoing l.fn.self.config)
    (flat_map (order_of l.fn.self.config l.fn.self.lists.memory.leader.ballot (running l.fn.self.lists)
    (leases l.fn.self.config l.fn.self.lists).rows) (take l.effect-index l.effects))) l.fn.out
