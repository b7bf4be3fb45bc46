-- Bytes of a pick laid over others, place by place.
use Rattle.std.proofs.Common.{◌≡◌, ◌≢◌, ◌<◌, ◌≤◌, ℕ, ◌+◌, min, Bool, true, false, ◌&&◌, ◌||◌, List, length, get_or, set, take, refl, sym, ◌∙◌, ap, ap₂, arith, subst, inl, inr}
use Rattle.std.specs.Prelude.{nat_le, nat_lt, nat_eq, if◌then◌else◌}
use Rattle.std.specs.List.{list_any}
use Rattle.std.proofs.lemmas.Bool.{cond-true, cond-false, eq-eqb, ne_eqb, le-leb, lt-leb, lt-ltb, le-ltb, cases_eq, cases_lt, cases_order, and_left, and_right, or_right}
use Rattle.std.proofs.lemmas.List.{get_or-set_same, get_or-set_other, length-set}
use Rattle.std.proofs.lemmas.List.Folds.{list_any_more}
use Rattle.outside_io.specs.Disk.{is_in}
use Rattle.outside_io.specs.declared.disk.Span.{Span}
use Rattle.disk_model.specs.Overlays.{IsLaid, IsOverlaid, AreOverlaid}

or_none : (b c : Bool) → c ≡ false → (b || c) ≡ b
or_none true c absent = refl
or_none false c absent = absent

and_true : (b : Bool) → (b && true) ≡ b
and_true true = refl
and_true false = refl

-- laid over no place
pub laid_none : (passes : ℕ → Bool) (pick old : List ℕ) → ((k : ℕ) → passes k ≡ false) → IsLaid passes pick old old
laid_none passes pick old none = record { room = refl; byte = λ k lt. sym (cond-false (passes k) _ _ (none k)) }

-- a test with the same answers
pub laid_same : (p q : ℕ → Bool) (pick old new : List ℕ) → ((k : ℕ) → k < length old → q k ≡ p k)
    → IsLaid p pick old new → IsLaid q pick old new
laid_same p q pick old new same laid = record {
  room = laid.room;
  byte = λ k lt. laid.byte k lt ∙ ap (λ b. if b then get_or pick k 0 else get_or old k 0) (sym (same k lt));
}

-- two choices, one after the other
choose_then : (p q r : Bool) (x y m n : ℕ) → r ≡ (p || q) → m ≡ (if p then x else y) → n ≡ (if q then x else m)
    → n ≡ (if r then x else y)
choose_then true true r x y m n er em en = en ∙ sym (cond-true r x y er)
choose_then true false r x y m n er em en = en ∙ em ∙ sym (cond-true r x y er)
choose_then false true r x y m n er em en = en ∙ sym (cond-true r x y er)
choose_then false false r x y m n er em en = en ∙ em ∙ sym (cond-false r x y er)

-- laid once more
pub laid_then : (p q r : ℕ → Bool) (pick old mid new : List ℕ) → ((k : ℕ) → k < length old → r k ≡ (p k || q k))
    → IsLaid p pick old mid → IsLaid q pick mid new → IsLaid r pick old new
laid_then p q r pick old mid new both first second = record {
  room = second.room ∙ first.room;
  byte = λ k lt. choose_then (p k) (q k) (r k) _ _ (get_or mid k 0) (get_or new k 0) (both k lt) (first.byte k lt)
      (second.byte k (omega (arith, lt, first.room)));
}

-- one place
pub laid_one : (q : ℕ → Bool) (pick old : List ℕ) (i : ℕ) → i < length old → q i ≡ true
    → ((k : ℕ) → k ≢ i → q k ≡ false) → IsLaid q pick old (set old i (get_or pick i 0))
laid_one q pick old i lt here other = record {
  room = length-set old i (get_or pick i 0);
  byte = λ k within. elim (cases_eq k i) [
    | inl is ↦
        subst (λ j. get_or (set old i (get_or pick i 0)) j 0 ≡ (if q j then get_or pick j 0 else get_or old j 0))
        (sym is)
        (get_or-set_same old i (get_or pick i 0) 0 lt ∙ sym (cond-true (q i) _ _ here))
    | inr not ↦ get_or-set_other old i k (get_or pick i 0) 0 not ∙ sym (cond-false (q k) _ _ (other k not))
  ];
}

-- no place is in an empty range
pub empty_range : (from k : ℕ) → (nat_le from k && nat_lt k from) ≡ false
empty_range from k = elim (cases_lt k from) [
  | inl lt ↦ and_left (nat_le from k) (nat_lt k from) (lt-leb from k lt)
  | inr le ↦ and_right (nat_le from k) (nat_lt k from) (le-ltb k from le)
]

-- a range with one place more
pub longer_range : (from i k : ℕ) → from ≤ i
    → (nat_le from k && nat_lt k (i + 1)) ≡ ((nat_le from k && nat_lt k i) || nat_eq k i)
longer_range from i k le = elim (cases_order k i) [
  | inl same ↦ ap₂ (λ x y. x && y) (le-leb from k (omega (arith, le, same))) (lt-ltb k (i + 1) (omega (arith, same)))
      ∙ sym (or_right (nat_le from k && nat_lt k i) (nat_eq k i) (eq-eqb k i same))
  | inr (inl lt) ↦ ap (λ b. nat_le from k && b) (lt-ltb k (i + 1) (omega (arith, lt)) ∙ sym (lt-ltb k i lt))
      ∙ sym (or_none (nat_le from k && nat_lt k i) (nat_eq k i) (ne_eqb k i (λ same. omega (arith, lt, same))))
  | inr (inr gt) ↦ and_right (nat_le from k) (nat_lt k (i + 1)) (le-ltb k (i + 1) (omega (arith, gt)))
      ∙ sym (ap₂ (λ x y. x || y) (and_right (nat_le from k) (nat_lt k i) (le-ltb k i (omega (arith, gt))))
      (ne_eqb k i (λ same. omega (arith, gt, same))))
]

-- a range that is clipped to the places below n
pub clipped_range : (from to n k : ℕ) → k < n
    → (nat_le (min from (min to n)) k && nat_lt k (min to n)) ≡ (nat_le from k && nat_lt k to)
clipped_range from to n k lt = elim (cases_lt k to) [
  | inr past ↦ and_right (nat_le (min from (min to n)) k) (nat_lt k (min to n))
      (le-ltb k (min to n) (omega (arith, past)))
      ∙ sym (and_right (nat_le from k) (nat_lt k to) (le-ltb k to past))
  | inl before ↦ elim (cases_lt k from) [
    | inl early ↦ and_left (nat_le (min from (min to n)) k) (nat_lt k (min to n))
        (lt-leb (min from (min to n)) k (omega (arith, early, before, lt)))
        ∙ sym (and_left (nat_le from k) (nat_lt k to) (lt-leb from k early))
    | inr late ↦ ap₂ (λ x y. x && y) (le-leb (min from (min to n)) k (omega (arith, late)) ∙ sym (le-leb from k late))
        (lt-ltb k (min to n) (omega (arith, before, lt)) ∙ sym (lt-ltb k to before))
  ]
]

-- one place more of a range
pub overlaid_more : (from i : ℕ) (pick old bytes : List ℕ) → from ≤ i → i < length old
    → IsOverlaid from i pick old bytes → IsOverlaid from (i + 1) pick old (set bytes i (get_or pick i 0))
overlaid_more from i pick old bytes le lt laid =
    laid_then (λ k. nat_le from k && nat_lt k i) (λ k. nat_eq k i) _ pick old bytes _
    (λ k _. longer_range from i k le) laid
    (laid_one (λ k. nat_eq k i) pick bytes i (omega (arith, lt, laid.room)) (eq-eqb i i refl) (λ k not. ne_eqb k i not))

-- one range more
pub ranges_more : (ranges : List Span) (n : ℕ) (none : Span) (pick old bytes new : List ℕ) → n < length ranges
    → AreOverlaid (take n ranges) pick old bytes
    → IsOverlaid (min (get_or ranges n none).from (min (get_or ranges n none).to (length bytes)))
    (min (get_or ranges n none).to (length bytes)) pick bytes new
    → AreOverlaid (take (n + 1) ranges) pick old new
ranges_more ranges n none pick old bytes new lt laid more =
    let s = get_or ranges n none in
    laid_then (λ k. list_any (is_in k) (take n ranges)) (λ k. is_in k s) _ pick old bytes new
    (λ k _. list_any_more (is_in k) ranges n none lt) laid
    (laid_same (λ k. nat_le (min s.from (min s.to (length bytes))) k && nat_lt k (min s.to (length bytes)))
    (λ k. is_in k s) pick bytes new
    (λ k within. sym (clipped_range s.from s.to (length bytes) k within)) more)

-- and at all places from an end on
pub laid_past : (p : ℕ → Bool) (end : ℕ) (pick old mid new : List ℕ) → IsLaid p pick old mid
    → IsOverlaid end (length mid) pick mid new → IsLaid (λ k. p k || nat_le end k) pick old new
laid_past p end pick old mid new laid more =
    laid_then p (λ k. nat_le end k && nat_lt k (length mid)) (λ k. p k || nat_le end k) pick old mid new
    (λ k lt. ap (λ b. p k || b)
    (sym (ap (λ b. nat_le end k && b) (lt-ltb k (length mid) (omega (arith, lt, laid.room)))
    ∙ and_true (nat_le end k)))) laid more
