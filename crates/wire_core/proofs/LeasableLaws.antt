-- Ranges marked by flags, one for each multiple of 8 among the ports.
use Rattle.std.proofs.Common.{◌≡◌, ◌∙◌, ℕ, zero, suc, ◌+◌, ◌*◌, ◌/◌, ◌%◌, ◌<◌, Bool, true, false, List, length, get_or, not, ◌&&◌, ◌==◌, nat_le, if◌then◌else◌, refl, ap, ap₂, arith}
use Rattle.std.specs.List.{list_any}
use Rattle.wire_core.specs.declared.rules.VipRule.{VipRule}
use Rattle.wire_core.specs.Ranges.{allows, count_starts, has_port}

-- what a rule allows, by the ports of endpoints among the eight
pub allowed_by : (rule : VipRule) (i : ℕ) (taken : Bool) → taken ≡ list_any (has_port (8 * i)) rule.taken
    → (nat_le rule.low (8 * i) && nat_le (8 * i + 7) rule.high && not taken) ≡ allows rule (8 * i)
allowed_by rule i taken is =
    let multiple : (8 * i % 8 == 0) ≡ true = grind arith in
    rw (is, multiple) refl

-- two tests that agree on each start count alike
pub count_starts-agree : (p q : ℕ → Bool) (n : ℕ) → ((i : ℕ) → i < n → p (8 * i) ≡ q (8 * i))
    → count_starts p n ≡ count_starts q n
unfolding count_starts
count_starts-agree p q zero same = refl
count_starts-agree p q (suc n) same =
    ap₂ (λ (count : ℕ) (passes : Bool). count + (if passes then 1 else 0))
    (count_starts-agree p q n (λ i lt. same i (omega arith))) (same n (omega arith))

-- the marked starts, where the flag of each tells a test
pub count-marked : (p : ℕ → Bool) (flags : List Bool) → ((i : ℕ) → i < length flags → get_or flags i false ≡ p (8 * i))
    → count_starts (λ start. get_or flags (start / 8) false) (length flags) ≡ count_starts p (length flags)
count-marked p flags same =
    count_starts-agree (λ start. get_or flags (start / 8) false) p (length flags) (λ i lt.
    let eighth : 8 * i / 8 ≡ i = omega arith in
    ap (λ k. get_or flags k false) eighth ∙ same i lt)
