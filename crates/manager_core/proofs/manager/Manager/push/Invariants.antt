use Rattle.std.proofs.Common.{◌≡◌, take, length}
use Rattle.std.specs.List.{flat_map}
use Rattle.port_leases.specs.TableState.{rows_above}
use Rattle.node_spec.specs.Steps.{outgoing, with_sends}
use Rattle.manager_spec.specs.Manager.{leases}
use Rattle.manager_spec.specs.Orders.{push_row}
use Rattle.manager_core.proofs.manager.Manager.push.Given as goal

abbrev pub invariant-loop-row : goal.invariant-loop-row
invariant-loop-row l =
    with_sends (flat_map (outgoing l.fn.self.config) (take l.room (flat_map (push_row l.fn.self.config l.fn.self.lists)
    (rows_above (leases l.fn.self.config l.fn.self.lists).rows l.above)))) l.out
    ≡ with_sends (flat_map (outgoing l.fn.self.config) (take 64 (flat_map (push_row l.fn.self.config l.fn.self.lists)
    (leases l.fn.self.config l.fn.self.lists).rows))) l.fn.out

abbrev pub decreases-loop-row : goal.decreases-loop-row
decreases-loop-row l = length (rows_above (leases l.fn.self.config l.fn.self.lists).rows l.above)
