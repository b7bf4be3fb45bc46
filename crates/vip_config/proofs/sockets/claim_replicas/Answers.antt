use Rattle.vip_config.specs.Sockets.{replica_claims}
use Rattle.vip_config.proofs.Walks.{one_more}
use Rattle.vip_config.proofs.sockets.claim_replicas.Goals as goal
use Rattle.wire_core.specs.Same.{same_socket}

pub loop-i-preserved : goal.loop-i-preserved
loop-i-preserved c =
    one_more same_socket replica_claims c.args.walk.now c.loop-i.walk c.claim.new.self c.loop-i.i _ c.args.replicas.now
    c.loop-i-test.true c.in_ok-claim.ensures c.loop-i.invariant
