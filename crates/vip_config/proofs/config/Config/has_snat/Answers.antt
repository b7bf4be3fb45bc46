use Rattle.std.proofs.Common.{◌≡◌, Some, None, ap, sym, ◌∙◌}
use Rattle.std.specs.Option.{option_copied}
use Rattle.vip_config.specs.Serving.{has_snat, snat_vip}
use Rattle.vip_config.specs.declared.parts.ConfigParts.{ConfigParts}
use Rattle.vip_config.proofs.Lookups.{is_from, leaving_is, snat_found}
use Rattle.vip_config.proofs.config.Config.has_snat.Goals as goal

pub returns-in-Some : goal.returns-in-Some
returns-in-Some c =
    let vips = c.self.inside.parts.vips in
    let found : Some c.in-Some.found.now ≡ snat_vip vips c.args.machine =
    sym (ap option_copied c.in-Some.is) ∙ c.get.ensures.value ∙ c.self.invariant.of_leaving c.args.machine
    ∙ leaving_is vips c.args.machine in
    c.eq.ensures ∙ ap (is_from c.args.vip) found
    ∙ sym (snat_found vips c.args.vip c.args.machine c.self.invariant.rules.snat)
    ∙ ap (λ (parts : ConfigParts). has_snat parts.vips c.args.vip c.args.machine) c.self.view_is

pub returns-in-None : goal.returns-in-None
returns-in-None c =
    let vips = c.self.inside.parts.vips in
    let found : None ≡ snat_vip vips c.args.machine =
    sym (ap option_copied c.in-None.is) ∙ c.get.ensures.value ∙ c.self.invariant.of_leaving c.args.machine
    ∙ leaving_is vips c.args.machine in
    ap (is_from c.args.vip) found
    ∙ sym (snat_found vips c.args.vip c.args.machine c.self.invariant.rules.snat)
    ∙ ap (λ (parts : ConfigParts). has_snat parts.vips c.args.vip c.args.machine) c.self.view_is
