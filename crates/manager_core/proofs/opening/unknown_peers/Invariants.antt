use Rattle.std.proofs.Common.{◌≡◌, length, take}
use Rattle.manager_spec.specs.Manager.{new_peers}
use Rattle.manager_core.proofs.opening.unknown_peers.Given as goal

abbrev pub invariant-loop-i : goal.invariant-loop-i
invariant-loop-i l = record {
  peers : l.peers.items ≡ new_peers 0 (take l.i l.sockets);
  count : length l.peers.items ≡ l.i;
}
