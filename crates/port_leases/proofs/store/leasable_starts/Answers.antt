use Rattle.std.proofs.Common.{◌≡◌, ◌∙◌, ◌*◌, ◌||◌, false, get_or, ap}
use Rattle.std.proofs.lemmas.List.{get_or-replicate}
use Rattle.std.proofs.Math.ListN.{replicate}
use Rattle.wire_core.specs.Ranges.{is_leasable, range_at}
use Rattle.port_leases.proofs.store.leasable_starts.Goals as goal

pub returns-clause-each : goal.returns-clause-each
returns-clause-each c = λ i within.
    let none : get_or (replicate 8192 false) i false ≡ false = get_or-replicate 8192 i false false within in
    c.mark_leasable.ensures.each i within ∙ ap (λ b. b || is_leasable c.args.rules.now (range_at c.args.vip (8 * i))) none
