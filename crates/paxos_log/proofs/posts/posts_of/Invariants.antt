use Rattle.std.proofs.Common.{◌≡◌, take, map}
use Rattle.paxos_spec.specs.Replica.{mail}
use Rattle.paxos_replica.specs.Seen.{recipients_of}
use Rattle.paxos_log.specs.World.{posted}
use Rattle.paxos_log.proofs.posts.posts_of.Given as goal

abbrev pub invariant-loop-target : goal.invariant-loop-target
invariant-loop-target l = l.posts.items ≡ map posted (map (mail l.said.sender l.said.body)
    (take l.target-index (recipients_of l.said.sender l.said.recipients)))
