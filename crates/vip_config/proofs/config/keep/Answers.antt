use Rattle.std.proofs.Common.{ap, sym, subst, ◌∙◌}
use Rattle.vip_config.specs.Claims.{owners_of}
use Rattle.vip_config.specs.Machines.{machines_of}
use Rattle.vip_config.specs.Rules.{HasBounds, HasLengths, KeepsRules}
use Rattle.vip_config.specs.Sockets.{socket_claims}
use Rattle.vip_config.specs.declared.parts.ConfigParts.{ConfigParts}
use Rattle.vip_config.proofs.Laws.{has_bounds, has_lengths, has_ports, keeps_rules}
use Rattle.vip_config.proofs.config.keep.Goals as goal

pub make_parts-requires : goal.make_parts-requires
make_parts-requires c = has_ports c.args.settings.vips (keeps_rules c.args.settings c.requires.rules).ranges

pub invariant_of-result : goal.invariant_of-result
invariant_of-result c =
    let s = c.args.settings in
    let is = sym c.in_ok-parts.ensures in
    record {
      rules = subst KeepsRules is (keeps_rules s c.requires.rules);
      bounds = subst HasBounds is (has_bounds s c.requires.bounded);
      lengths = subst HasLengths is (has_lengths s c.requires.sized);
      of_sockets =
          c.requires.sockets
          ∙ ap (λ (p : ConfigParts). owners_of (socket_claims p.router p.replicas p.muxes p.agents)) is;
      of_machines = c.requires.machines ∙ ap (λ (p : ConfigParts). machines_of p.agents) is;
      of_attached = c.in_ok-ways.ensures.attached;
      of_leaving = c.in_ok-ways.ensures.leaving;
      of_serving = c.in_ok-ways.ensures.serving;
    }
