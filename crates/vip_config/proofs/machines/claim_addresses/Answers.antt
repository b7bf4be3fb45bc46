use Rattle.vip_config.specs.Machines.{address_claims}
use Rattle.vip_config.proofs.Walks.{one_more}
use Rattle.vip_config.proofs.machines.claim_addresses.Goals as goal
use Rattle.wire_core.specs.Same.{same_ip}

pub loop-j-preserved : goal.loop-j-preserved
loop-j-preserved c =
    one_more same_ip (address_claims c.args.agent) c.args.walk.now c.loop-j.walk c.claim.new.self c.loop-j.j _
    c.args.machines.now c.loop-j-test.true
    c.in_ok-claim.ensures c.loop-j.invariant
