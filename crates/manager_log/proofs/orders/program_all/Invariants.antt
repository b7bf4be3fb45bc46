use Rattle.std.proofs.Common.{◌≡◌, take, map, filter}
use Rattle.std.specs.List.{flat_map}
use Rattle.node_spec.specs.Steps.{outgoing, with_sends}
use Rattle.manager_spec.specs.Known.{has_boot}
use Rattle.manager_spec.specs.Orders.{program}
use Rattle.manager_log.proofs.orders.program_all.Given as goal

abbrev pub invariant-loop-peer : goal.invariant-loop-peer
invariant-loop-peer l = l.out ≡ with_sends
    (flat_map (outgoing l.fn.cfg) (map (program l.fn.epoch l.fn.row) (filter has_boot (take l.peer-index l.peers)))) l.fn.out
