use Rattle.std.proofs.Common.{◌≡◌, ◌∙◌, ◌<◌, ◌*◌, ◌||◌, false, get_or, ap, arith}
use Rattle.std.proofs.lemmas.List.{get_or-replicate}
use Rattle.std.proofs.Math.ListN.{replicate}
use Rattle.std.specs.List.{list_any}
use Rattle.wire_core.specs.Ranges.{has_port}
use Rattle.wire_core.proofs.LeasableLaws.{allowed_by}
use Rattle.wire_core.proofs.rules.VipRule.mark_allowed.Goals as goal

pub returns-clause-each : goal.returns-clause-each
returns-clause-each c = λ i within.
    let fits : i < 8192 = omega (arith, within, c.requires) in
    let none : get_or (replicate 8192 false) i false ≡ false = get_or-replicate 8192 i false false fits in
    let taken =
    c.mark_ports.ensures.each i fits
    ∙ ap (λ b. b || list_any (has_port (8 * i)) c.as_slice.result.now) none
    ∙ ap (list_any (has_port (8 * i))) c.as_slice.ensures
    in
    c.mark_within.ensures.each i within
    ∙ ap (λ b. get_or c.args.flags.now i false || b) (allowed_by c.args.self.now i _ taken)
