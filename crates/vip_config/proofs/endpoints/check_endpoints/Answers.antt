use Rattle.std.proofs.Common.{ap, ◌∙◌}
use Rattle.vip_config.specs.Claims.{all_claimed, claims_of}
use Rattle.vip_config.specs.Endpoints.{vip_endpoint_claims, same_endpoint_key}
use Rattle.vip_config.proofs.Walks.{tells}
use Rattle.vip_config.proofs.endpoints.check_endpoints.Goals as goal

pub returns : goal.returns
returns c =
    let claims = claims_of (vip_endpoint_claims c.args.machines.now.entries) 0 c.args.vips.now in
    tells same_endpoint_key claims c.claim_vips.new.walk c.check.result
    (c.in_ok-claim_vips.ensures ∙ ap (λ w. all_claimed same_endpoint_key w claims) c.new-walk.ensures) c.check.ensures
