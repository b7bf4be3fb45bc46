use Rattle.vip_config.specs.Endpoints.{member_claims, same_endpoint_key}
use Rattle.vip_config.proofs.Walks.{one_more}
use Rattle.vip_config.proofs.endpoints.claim_members.Goals as goal

pub loop-k-preserved : goal.loop-k-preserved
loop-k-preserved c =
    one_more same_endpoint_key (member_claims c.args.machines.now.entries c.args.at.vip c.args.at.endpoint
    c.args.at.proto) c.args.walk.now c.loop-k.walk c.claim_member.new.walk c.loop-k.k _ c.args.members.now
    c.loop-k-test.true
    c.in_ok-claim_member.ensures c.loop-k.invariant
