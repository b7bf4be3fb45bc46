use Rattle.std.proofs.Common.{ap, ◌∙◌}
use Rattle.vip_config.specs.Serving.{member_at, service_for}
use Rattle.vip_config.specs.declared.parts.ConfigParts.{ConfigParts}
use Rattle.vip_config.proofs.Served.{service_found}
use Rattle.vip_config.proofs.config.Config.member_at.Goals as goal

pub returns : goal.returns
returns c =
    let parts = c.self.inside.parts in
    c.find_member.ensures ∙ c.self.invariant.of_serving (service_for c.args.key.now c.args.machine)
    ∙ service_found parts.vips c.args.key.now c.args.machine c.self.invariant.rules.vips c.self.invariant.rules.ports
    ∙ ap (λ (p : ConfigParts). member_at p.vips c.args.key.now c.args.machine) c.self.view_is
