use Rattle.vip_config.specs.Snat.{snat_claims}
use Rattle.vip_config.specs.Claims.{claims_of}
use Rattle.std.proofs.Common.{ap, ◌∙◌}
use Rattle.vip_config.specs.Claims.{all_claimed}
use Rattle.vip_config.specs.Snat.{vip_snat_claims}
use Rattle.vip_config.proofs.Walks.{one_more}
use Rattle.vip_config.proofs.snat.claim_vips.Goals as goal
use Rattle.wire_core.specs.Same.{same_ip}

pub loop-i-preserved : goal.loop-i-preserved
loop-i-preserved c =
    one_more same_ip (vip_snat_claims c.args.machines.now.entries) c.args.walk.now c.loop-i.walk
    c.claim_snat.new.walk c.loop-i.i _ c.args.vips.now c.loop-i-test.true
    (c.in_ok-claim_snat.ensures ∙ ap
    (λ s. all_claimed same_ip c.loop-i.walk (claims_of (snat_claims c.args.machines.now.entries c.loop-i.i) 0 s))
    c.as_slice.ensures ∙ ap (λ x. all_claimed same_ip c.loop-i.walk
    ((vip_snat_claims c.args.machines.now.entries) c.loop-i.i x)) c.index-vips-i.is) c.loop-i.invariant
