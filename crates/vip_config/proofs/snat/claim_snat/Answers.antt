use Rattle.std.proofs.Common.{get_or}
use Rattle.vip_config.specs.declared.place.Place.TheVariants.{Snat}
use Rattle.vip_config.specs.Claims.{claim, claimed}
use Rattle.std.proofs.Common.{◌∙◌}
use Rattle.vip_config.specs.Snat.{snat_claims}
use Rattle.vip_config.proofs.Walks.{one_more}
use Rattle.vip_config.proofs.snat.claim_snat.Goals as goal
use Rattle.wire_core.specs.Same.{same_ip}

pub loop-j-preserved : goal.loop-j-preserved
loop-j-preserved c =
    one_more same_ip (snat_claims c.args.machines.now.entries c.args.vip) c.args.walk.now c.loop-j.walk
    c.claim.new.self c.loop-j.j _ c.args.snat.now c.loop-j-test.true
    (c.in_ok-claim.ensures ∙ (λ t.
    claimed same_ip c.loop-j.walk
    (claim (Snat c.args.vip c.loop-j.j) (get_or c.args.snat.now c.loop-j.j (record { 0 = 0 })) tt
    (c.contains_key-fits.ensures t)))) c.loop-j.invariant
