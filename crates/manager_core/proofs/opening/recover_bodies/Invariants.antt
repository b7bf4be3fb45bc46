use Rattle.std.proofs.Common.{◌≡◌, true, take, fold}
use Rattle.node_spec.specs.Bodies.{entries_of}
use Rattle.paxos_spec.specs.Acceptor.{follow}
use Rattle.manager_core.proofs.opening.recover_bodies.Given as goal

abbrev pub invariant-loop-body : goal.invariant-loop-body
invariant-loop-body l = record {
  rules : l.log.rules ≡ l.fn.log.rules;
  sound : l.log.sound ≡ true;
  memory : l.log.replica.memory ≡ l.fn.log.replica.memory;
  acceptor : l.log.replica.acceptor ≡ fold follow l.fn.log.replica.acceptor (entries_of (take l.body-index l.bodies));
}
