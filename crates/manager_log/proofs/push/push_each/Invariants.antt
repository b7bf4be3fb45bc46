use Rattle.std.proofs.Common.{◌≡◌, ◌-◌, take, drop, filter, length}
use Rattle.std.specs.List.{flat_map}
use Rattle.node_spec.specs.Steps.{outgoing, with_sends}
use Rattle.manager_spec.specs.Known.{is_near}
use Rattle.manager_spec.specs.Orders.{push_one}
use Rattle.manager_log.proofs.push.push_each.Given as goal

abbrev pub invariant-loop-peer : goal.invariant-loop-peer
invariant-loop-peer l = record {
  sends : with_sends (flat_map (outgoing l.fn.cfg) (take l.left (flat_map
      (push_one l.fn.pushed.epoch l.fn.pushed.row l.fn.pushed.marks)
      (filter (is_near l.fn.cfg l.fn.time) (drop l.peer-index l.peers))))) l.out
      ≡ with_sends (flat_map (outgoing l.fn.cfg) (take l.fn.room (flat_map
      (push_one l.fn.pushed.epoch l.fn.pushed.row l.fn.pushed.marks)
      (filter (is_near l.fn.cfg l.fn.time) l.peers)))) l.fn.out;
  room : l.left - length (flat_map (push_one l.fn.pushed.epoch l.fn.pushed.row l.fn.pushed.marks)
      (filter (is_near l.fn.cfg l.fn.time) (drop l.peer-index l.peers)))
      ≡ l.fn.room - length (flat_map (push_one l.fn.pushed.epoch l.fn.pushed.row l.fn.pushed.marks)
      (filter (is_near l.fn.cfg l.fn.time) l.peers));
}
