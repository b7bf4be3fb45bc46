use Rattle.std.proofs.Common.{◌≡◌, take}
use Rattle.paxos_spec.specs.Acceptor.{state_of}
use Rattle.paxos_spec.specs.Replica.{new_memory}
use Rattle.paxos_log.specs.Sites.{entries_of}
use Rattle.paxos_log.proofs.site.recovered.Given as goal

abbrev pub invariant-loop-entry : goal.invariant-loop-entry
invariant-loop-entry l = record {
  state : l.replica.acceptor ≡ state_of (entries_of (take l.entry-index l.entries));
  memory : l.replica.memory ≡ new_memory;
}
