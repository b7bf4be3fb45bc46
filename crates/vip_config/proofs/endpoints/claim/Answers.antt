use Rattle.std.proofs.Common.{◌∙◌}
use Rattle.vip_config.specs.Claims.{claim, claimed}
use Rattle.vip_config.proofs.endpoints.claim.Goals as goal

pub returns : goal.returns
returns c =
    c.in_ok-claim.ensures ∙ (λ t. claimed (λ a b. c.keys_compare.ensures a b t) c.args.walk.now
    (claim c.args.place c.args.key tt c.args.fits))
