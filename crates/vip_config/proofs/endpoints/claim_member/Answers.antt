use Rattle.std.proofs.Common.{◌∙◌}
use Rattle.vip_config.specs.declared.endpoints.EndpointKey.TheVariants.{Machine}
use Rattle.vip_config.specs.declared.place.Place.TheVariants.{MemberAddress}
use Rattle.vip_config.specs.Claims.{claim, claimed}
use Rattle.vip_config.specs.Endpoints.{same_endpoint_key}
use Rattle.vip_config.proofs.endpoints.claim_member.Goals as goal

pub returns : goal.returns
returns c =
    c.in_ok-claim-2.ensures
    ∙ (λ t. claimed same_endpoint_key (c.in_ok-claim.ensures t)
    (claim (MemberAddress c.args.at.vip c.args.at.endpoint c.args.k)
    (Machine c.args.at.vip c.args.at.endpoint c.args.member.address) tt (c.contains_key-fits.ensures t)))
