use Rattle.std.proofs.Common.{◌≡◌, List, take, fold}
use Rattle.manager_spec.specs.declared.peer.Peer.{Peer}
use Rattle.manager_spec.specs.Orders.{after_effect}
use Rattle.manager_log.specs.Pending.{IsCurrent}
use Rattle.manager_log.proofs.pending.forget.Given as goal

abbrev pub invariant-loop-effect : goal.invariant-loop-effect
invariant-loop-effect l = record {
  acks : l.acks.entries ≡ fold after_effect l.fn.acks.entries (take l.effect-index l.effects);
  current : (peers : List Peer)
      → IsCurrent l.fn.pending l.fn.log.rules l.fn.log.replica.acceptor l.fn.acks.entries peers
      → IsCurrent l.pending l.fn.log.rules l.fn.log.replica.acceptor l.acks.entries peers;
}
