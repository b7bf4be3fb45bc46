use Rattle.std.proofs.Common.{◌≡◌, Some, ap, sym, ◌∙◌, unwrap_or}
use Rattle.std.specs.Map.{lookup}
use Rattle.std.specs.Option.{option_copied}
use Rattle.vip_config.specs.Queries.{who_of}
use Rattle.vip_config.specs.declared.who.Who.TheVariants.{Outside}
use Rattle.vip_config.proofs.config.Config.who.Goals as goal
use Rattle.wire_core.specs.Same.{same_socket}

pub returns-in-Some : goal.returns-in-Some
returns-in-Some c =
    let found : Some c.in-Some.who.now ≡ lookup (same_socket c.args.s.now) c.self.inside.index.sockets.entries =
    sym (ap option_copied c.in-Some.is) ∙ c.get.ensures.value in
    ap (λ o. unwrap_or o Outside) found
    ∙ ap (λ es. unwrap_or (lookup (same_socket c.args.s.now) es) Outside) c.self.invariant.of_sockets
    ∙ ap (λ parts. who_of parts c.args.s.now) c.self.view_is
