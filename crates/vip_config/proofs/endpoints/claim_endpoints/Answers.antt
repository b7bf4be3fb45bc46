use Rattle.std.proofs.Common.{ap, ◌∙◌}
use Rattle.vip_config.specs.Claims.{all_claimed}
use Rattle.vip_config.specs.Endpoints.{endpoint_claims, same_endpoint_key}
use Rattle.vip_config.proofs.Walks.{one_more}
use Rattle.vip_config.proofs.endpoints.claim_endpoints.Goals as goal

pub loop-j-preserved : goal.loop-j-preserved
loop-j-preserved c =
    one_more same_endpoint_key (endpoint_claims c.args.machines.now.entries c.args.vip) c.args.walk.now c.loop-j.walk
    c.claim_endpoint.new.walk c.loop-j.j _ c.args.endpoints.now c.loop-j-test.true
    (c.in_ok-claim_endpoint.ensures
    ∙ ap (λ x. all_claimed same_endpoint_key c.loop-j.walk
    ((endpoint_claims c.args.machines.now.entries c.args.vip) c.loop-j.j x)) c.index-endpoints-j.is) c.loop-j.invariant
