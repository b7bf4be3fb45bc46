use Rattle.std.proofs.Common.{◌≡◌, ◌∙◌, ℕ, ◌<◌, ◌*◌, ◌||◌, false, length, get_or, subst, ap, arith}
use Rattle.std.proofs.lemmas.List.{get_or-replicate}
use Rattle.std.proofs.Math.ListN.{replicate}
use Rattle.wire_core.specs.Ranges.{count_starts, is_leasable, range_at}
use Rattle.wire_core.proofs.LeasableLaws.{count-marked}
use Rattle.wire_core.proofs.rules.LeaseRules.count.Goals as goal

pub returns : goal.returns
returns c =
    let flags = c.mark_leasable.new.flags in
    let passes = λ (start : ℕ). is_leasable c.args.self.now (range_at c.args.vip start) in
    let all : length flags ≡ 8192 = c.mark_leasable.ensures.len in
    let marked = count-marked passes flags (λ i within.
    let fits : i < 8192 = omega (arith, within, all) in
    let none : get_or (replicate 8192 false) i false ≡ false = get_or-replicate 8192 i false false fits in
    c.mark_leasable.ensures.each i fits ∙ ap (λ b. b || passes (8 * i)) none) in
    subst (λ (n : ℕ). c.count_marked.result ≡ count_starts passes n) all (c.count_marked.ensures ∙ marked)
