use Rattle.std.proofs.Common.{not}
use Rattle.vip_config.specs.declared.place.Place.TheVariants.{VipAddress}
use Rattle.vip_config.specs.Claims.{claim, claimed}
use Rattle.std.proofs.Common.{ap, ◌∙◌}
use Rattle.vip_config.specs.Claims.{all_claimed}
use Rattle.vip_config.specs.Vips.{vip_claims}
use Rattle.vip_config.proofs.Walks.{one_more}
use Rattle.vip_config.proofs.vips.claim_vips.Goals as goal
use Rattle.wire_core.specs.Same.{same_ip}

pub loop-i-preserved : goal.loop-i-preserved
loop-i-preserved c =
    one_more same_ip (vip_claims c.args.machines.now.entries) c.args.walk.now c.loop-i.walk c.claim.new.self
    c.loop-i.i _ c.args.vips.now c.loop-i-test.true
    (c.in_ok-claim.ensures ∙ (λ t.
    claimed same_ip c.loop-i.walk
    (claim (VipAddress c.loop-i.i) c.index-vips-i.result.address tt (not (c.contains_key-fits.ensures t))))
    ∙ ap (λ x. all_claimed same_ip c.loop-i.walk ((vip_claims c.args.machines.now.entries) c.loop-i.i x))
    c.index-vips-i.is) c.loop-i.invariant
