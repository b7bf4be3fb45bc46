use Rattle.std.proofs.Common.{◌≡◌, false, is_some, arith, ap, sym, ◌∙◌}
use Rattle.vip_config.specs.Claims.{claim, claimed}
use Rattle.vip_config.proofs.Walks.{claimed_last}
use Rattle.vip_config.proofs.walk.Walk.claim.Goals as goal

pub returns : goal.returns
returns g c =
    let going : is_some c.self.inside.broken ≡ false = sym c.is_some.ensures ∙ c.if-is_some.false in
    claimed_last g.K.PartialEq.eq c.self.inside.owners.entries c.insert.new.self.entries c.self.inside.broken
    c.args.place c.args.key c.args.owner c.args.fits
    going (grind (arith, c.if-not-fits.false))
    (sym c.contains_key.ensures ∙ c.if-contains_key.false) c.in_ok-insert.ensures.entries
    ∙ ap (λ w. claimed g.K.PartialEq.eq w (claim c.args.place c.args.key c.args.owner c.args.fits)) c.self.view_is
