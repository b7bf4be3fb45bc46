-- The least free range: what a search of starts finds, and what it leaves.
use Rattle.std.proofs.Common.{◌≡◌, inl, inr, ℕ, zero, suc, ◌+◌, ◌*◌, ◌/◌, ◌%◌, ◌<◌, Bool, true, false, cond, ◌&&◌, ◌==◌}
use Rattle.std.proofs.Common.{List, [], ◌∷◌, Option, Some, None, refl, sym, ap, subst, arith, ◌∙◌}
use Rattle.std.specs.List.{list_any}
use Rattle.std.proofs.lemmas.Bool.Decides.{nat_tests}
use Rattle.wire_core.specs.declared.address.Ip4.{Ip4}
use Rattle.wire_core.specs.declared.range.Range.{Range}
use Rattle.wire_core.specs.declared.rules.VipRule.{VipRule}
use Rattle.wire_core.specs.declared.rules.LeaseRules.{LeaseRules}
use Rattle.wire_core.specs.Ranges.{range_at, allows, is_leasable}
use Rattle.wire_core.specs.Members.{In}
use Rattle.lease_spec.specs.declared.row.Row.{Row}
use Rattle.lease_spec.specs.Free.{same_range, has_no_row, is_free, first_start, range_of_start, least_free, IsLeast}
use Rattle.lease_spec.specs.Free.{IsLeastFree}

-- ---- a search of starts

-- the start that was found passes, and none of those before it does
pub record IsFirst (passes : ℕ → Bool) (count start found : ℕ) : Type 0 where
  pub steps : ℕ
  pub within : steps < count
  pub at : found ≡ start + 8 * steps
  pub passed : passes found ≡ true
  pub before : (j : ℕ) → j < steps → passes (start + 8 * j) ≡ false

-- what holds of the first and of each later step holds of each
steps_more : (P : ℕ → Type 0) (n start : ℕ) → P start → ((j : ℕ) → j < n → P (start + 8 + 8 * j)) → (j : ℕ) → j < suc n
    → P (start + 8 * j)
steps_more P n start first later zero lt = let same : start + 8 * 0 ≡ start = omega arith in rw same first
steps_more P n start first later (suc j) lt = let same : start + 8 * suc j ≡ start + 8 + 8 * j =
    omega arith in rw same (later j (omega arith))

pub first_start_found : (passes : ℕ → Bool) (count start found : ℕ) → first_start passes count start ≡ Some found
    → IsFirst passes count start found
unfolding first_start
first_start_found passes zero start found e = absurd (cc)
first_start_found passes (suc count) start found e =
    by (passes start) refl e (first_start_found passes count (start + 8) found)
  where
    by : (b : Bool) → passes start ≡ b → cond b (Some start) (first_start passes count (start + 8)) ≡ Some found
        → (first_start passes count (start + 8) ≡ Some found → IsFirst passes count (start + 8) found)
        → IsFirst passes (suc count) start found
    by true is e rest = let same : start ≡ found =
        cc in record {
          steps = 0;
          within = omega arith;
          at = omega arith;
          passed =
              subst (λ s. passes s ≡ true) same is;
          before = λ j lt. absurd (omega arith);
        }
    by false is e rest = let r = rest e in record {
      steps = suc r.steps;
      within = (let w = r.within in omega arith);
      at = (let a = r.at in omega arith);
      passed = r.passed;
      before = steps_more (λ s. passes s ≡ false) r.steps start is r.before;
    }

pub first_start_none : (passes : ℕ → Bool) (count start : ℕ) → first_start passes count start ≡ None → (j : ℕ)
    → j < count → passes (start + 8 * j) ≡ false
unfolding first_start
first_start_none passes zero start e = λ j lt. absurd (omega arith)
first_start_none passes (suc count) start e = by (passes start) refl e (first_start_none passes count (start + 8))
  where
    by : (b : Bool) → passes start ≡ b → cond b (Some start) (first_start passes count (start + 8)) ≡ None
        → (first_start passes count (start + 8) ≡ None → (j : ℕ) → j < count → passes (start + 8 + 8 * j) ≡ false)
        → (j : ℕ) → j < suc count → passes (start + 8 * j) ≡ false
    by true is e rest = absurd (cc)
    by false is e rest = steps_more (λ s. passes s ≡ false) count start is (rest e)

-- ---- leasable starts

-- what some rule allows is a multiple of 8
some_allows : (vip : Ip4) (start : ℕ) (vips : List VipRule)
    → list_any (λ rule. (rule.vip.0 == vip.0) && allows rule start) vips ≡ true → start % 8 ≡ 0
some_allows vip start [] e = absurd (cc)
some_allows vip start (rule ∷ rules) e =
    by ((rule.vip.0 == vip.0) && allows rule start) refl e (some_allows vip start rules)
  where
    by : (b : Bool) → ((rule.vip.0 == vip.0) && allows rule start) ≡ b
        → list_any (λ r. (r.vip.0 == vip.0) && allows r start) (rule ∷ rules) ≡ true
        → (list_any (λ r. (r.vip.0 == vip.0) && allows r start) rules ≡ true → start % 8 ≡ 0) → start % 8 ≡ 0
    by true is e rest = let multiple : (start % 8 == 0) ≡ true = grind arith in grind (arith, nat_tests)
    by false is e rest = rest (grind arith)

pub leasable_multiple : (rules : LeaseRules) (vip : Ip4) (start : ℕ) → is_leasable rules (range_at vip start) ≡ true
    → start % 8 ≡ 0
leasable_multiple rules vip start e = some_allows vip start rules.vips e

pub free_multiple : (rules : LeaseRules) (rows : List Row) (vip : Ip4) (start : ℕ)
    → is_free rules rows (range_at vip start) ≡ true → start % 8 ≡ 0
free_multiple rules rows vip start e =
    leasable_multiple rules vip start (let l : is_leasable rules (range_at vip start) ≡ true = grind arith in l)

-- where no multiple of 8 below a bound is free, no start below it is
starts_below : (rules : LeaseRules) (rows : List Row) (vip : Ip4) (steps : ℕ)
    → ((j : ℕ) → j < steps → is_free rules rows (range_at vip (0 + 8 * j)) ≡ false)
    → (start : ℕ) → start < 8 * steps → is_free rules rows (range_at vip start) ≡ false
starts_below rules rows vip steps none start lt = by (is_free rules rows (range_at vip start)) refl
  where
    by : (b : Bool) → is_free rules rows (range_at vip start) ≡ b → b ≡ false
    by true is =
        let multiple = free_multiple rules rows vip start is in
        let within : start / 8 < steps = omega arith in
        let same : 0 + 8 * (start / 8) ≡ start = omega arith in
        sym is ∙ subst (λ s. is_free rules rows (range_at vip s) ≡ false) same (none (start / 8) within)
    by false is = refl

-- ---- the law

found_least : (rules : LeaseRules) (rows : List Row) (vip : Ip4) (count start : ℕ)
    → IsFirst (λ s. is_free rules rows (range_at vip s)) count 0 start → IsLeast rules rows vip (range_at vip start)
found_least rules rows vip count start f = record {
  of_vip = refl;
  free = f.passed;
  least = λ s lt. starts_below rules rows vip f.steps f.before s (let a = f.at in omega arith);
}

searched : (rules : LeaseRules) (rows : List Row) (vip : Ip4) (count : ℕ) → 65536 ≡ 8 * count → (o : Option ℕ)
    → first_start (λ s. is_free rules rows (range_at vip s)) count 0 ≡ o
    → IsLeastFree rules rows vip (range_of_start vip o)
searched rules rows vip count all None e =
    λ start lt. starts_below rules rows vip count (first_start_none _ count 0 e) start (omega arith)
searched rules rows vip count all (Some start) e =
    found_least rules rows vip count start (first_start_found _ count 0 start e)

pub least_free_is : (rules : LeaseRules) (rows : List Row) (vip : Ip4)
    → IsLeastFree rules rows vip (least_free rules rows vip)
unfolding least_free
least_free_is rules rows vip =
    searched rules rows vip 8192 refl (first_start (λ s. is_free rules rows (range_at vip s)) 8192 0) refl

-- ---- a range that was found free has no row

same_itself : (r : Range) → same_range r r ≡ true
same_itself r = grind (arith, nat_tests)

pub no_row : (rows : List Row) (r : Range) → has_no_row rows r ≡ true → (row : Row) → In row rows → row.range ≡ r → ⊥
no_row [] r free row i same = i
no_row (y ∷ rows) r free row i same = elim i [
  | inl e ↦ (let s : y.range ≡ r = ap (λ (z : Row). z.range) e ∙ same in
      let t : same_range y.range r ≡ true = rw s (same_itself r) in
      let u : same_range y.range r ≡ false = grind arith in cc)
  | inr j ↦ no_row rows r (grind arith) row j same
]

pub found_free : (rules : LeaseRules) (rows : List Row) (vip : Ip4) (r : Range) → least_free rules rows vip ≡ Some r
    → has_no_row rows r ≡ true
found_free rules rows vip r e =
    let least : IsLeast rules rows vip r = subst (IsLeastFree rules rows vip) e (least_free_is rules rows vip) in
    let free : is_free rules rows r ≡ true = least.free in grind arith

pub found_leasable : (rules : LeaseRules) (rows : List Row) (vip : Ip4) (r : Range) → least_free rules rows vip ≡ Some r
    → is_leasable rules r ≡ true
found_leasable rules rows vip r e =
    let least : IsLeast rules rows vip r = subst (IsLeastFree rules rows vip) e (least_free_is rules rows vip) in
    let free : is_free rules rows r ≡ true = least.free in grind arith
