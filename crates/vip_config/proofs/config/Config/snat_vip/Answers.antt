use Rattle.std.proofs.Common.{ap, ◌∙◌}
use Rattle.vip_config.specs.Serving.{snat_vip}
use Rattle.vip_config.specs.declared.parts.ConfigParts.{ConfigParts}
use Rattle.vip_config.proofs.Lookups.{leaving_is}
use Rattle.vip_config.proofs.config.Config.snat_vip.Goals as goal

pub returns : goal.returns
returns c =
    c.copied.ensures ∙ c.get.ensures.value ∙ c.self.invariant.of_leaving c.args.machine
    ∙ leaving_is c.self.inside.parts.vips c.args.machine
    ∙ ap (λ (parts : ConfigParts). snat_vip parts.vips c.args.machine) c.self.view_is
