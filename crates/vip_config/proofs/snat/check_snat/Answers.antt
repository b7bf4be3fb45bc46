use Rattle.std.proofs.Common.{ap, ◌∙◌}
use Rattle.vip_config.specs.Claims.{all_claimed, claims_of}
use Rattle.vip_config.specs.Snat.{vip_snat_claims}
use Rattle.vip_config.proofs.Walks.{tells}
use Rattle.vip_config.proofs.snat.check_snat.Goals as goal
use Rattle.wire_core.specs.Same.{same_ip}

pub returns : goal.returns
returns c =
    let claims = claims_of (vip_snat_claims c.args.machines.now.entries) 0 c.args.vips.now in
    tells same_ip claims c.claim_vips.new.walk c.check.result
    (c.in_ok-claim_vips.ensures ∙ ap (λ w. all_claimed same_ip w claims) c.new-walk.ensures) c.check.ensures
