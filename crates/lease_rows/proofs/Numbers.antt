-- Ascending numbers in two lists, one after the other: what comes before and after a number of either.
use Rattle.std.proofs.Common.{◌≡◌, ℕ, ◌<◌, ◌==◌, Bool, true, false, List, [], ◌∷◌, ◌++◌, Option, Some, None, refl, ap, sym, ◌∙◌, subst, arith, true≢false}
use Rattle.std.specs.List.{list_any}
use Rattle.std.specs.Option.{is_none, option_or}
use Rattle.std.proofs.lemmas.Bool.Decides.{nat_tests}
use Rattle.lease_rows.specs.Links.{first_number, is_number, last_number, number_after, number_before}

abbrev pub AllUnder : ℕ → List ℕ → Type 0
AllUnder k [] = Unit {0}
AllUnder k (n ∷ ns) = (n < k) × AllUnder k ns

abbrev pub AllOver : ℕ → List ℕ → Type 0
AllOver k [] = Unit {0}
AllOver k (n ∷ ns) = (k < n) × AllOver k ns

abbrev pub Rise : List ℕ → Type 0
Rise [] = Unit {0}
Rise (n ∷ ns) = AllOver n ns × Rise ns

-- k is one of them
abbrev pub has : ℕ → List ℕ → Bool
has k ns = list_any (λ n. n == k) ns

pub or_none : {X : Type 0} (o : Option X) → option_or o None ≡ o
or_none None = refl
or_none (Some x) = refl

or_or : {X : Type 0} (a b c : Option X) → option_or (option_or a b) c ≡ option_or a (option_or b c)
or_or None b c = refl
or_or (Some x) b c = refl

-- ---- which are among them

pub over_miss : (k : ℕ) (ns : List ℕ) → AllOver k ns → has k ns ≡ false
over_miss k [] h = refl
over_miss k (n ∷ ns) h = grind (arith, nat_tests, over_miss k ns h.1, h.0)

pub under_miss : (k : ℕ) (ns : List ℕ) → AllUnder k ns → has k ns ≡ false
under_miss k [] h = refl
under_miss k (n ∷ ns) h = grind (arith, nat_tests, under_miss k ns h.1, h.0)

over_has : (n k : ℕ) (ns : List ℕ) → AllOver n ns → has k ns ≡ true → n < k
over_has n k [] h is = absurd (true≢false (sym is))
over_has n k (x ∷ ns) h is = by (x == k) refl (over_has n k ns h.1)
  where
    by : (b : Bool) → (x == k) ≡ b → (has k ns ≡ true → n < k) → n < k
    by true e more = let same : x ≡ k = grind (arith, nat_tests, e) in subst (λ (y : ℕ). n < y) same h.0
    by false e more = more (rw e at is)

pub miss_first : (k : ℕ) (ns : List ℕ) → has k ns ≡ false → is_number k (first_number ns) ≡ false
miss_first k [] h = refl
miss_first k (n ∷ ns) h = grind (arith, h)

is_last_or : (k n : ℕ) (o : Option ℕ) → (n == k) ≡ false → is_number k (option_or o (Some n)) ≡ is_number k o
is_last_or k n None other = other
is_last_or k n (Some x) other = refl

pub miss_last : (k : ℕ) (ns : List ℕ) → has k ns ≡ false → is_number k (last_number ns) ≡ false
miss_last k [] h = refl
miss_last k (n ∷ ns) h =
    let other : (n == k) ≡ false = grind (arith, h) in
    let rest : has k ns ≡ false = grind (arith, h) in
    is_last_or k n (last_number ns) other ∙ miss_last k ns rest

-- ---- what comes after

pub after_over : (ns : List ℕ) (k : ℕ) → AllOver k ns → number_after ns k ≡ first_number ns
after_over [] k h = refl
after_over (n ∷ ns) k h = grind (arith, nat_tests, h.0)

pub after_front : (front back : List ℕ) (k : ℕ) → AllOver k back
    → number_after (front ++ back) k ≡ option_or (number_after front k) (first_number back)
after_front [] back k h = after_over back k h
after_front (n ∷ front) back k h = grind (arith, after_front front back k h)

pub after_back : (front back : List ℕ) (k : ℕ) → AllUnder k front → number_after (front ++ back) k ≡ number_after back k
after_back [] back k h = refl
after_back (n ∷ front) back k h = grind (arith, nat_tests, after_back front back k h.1, h.0)

-- ---- what comes before

pub before_over : (ns : List ℕ) (k : ℕ) → AllOver k ns → number_before ns k ≡ None
before_over [] k h = refl
before_over (n ∷ ns) k h = grind (arith, nat_tests, before_over ns k h.1, h.0)

pub before_front : (front back : List ℕ) (k : ℕ) → AllOver k back → number_before (front ++ back) k ≡ number_before front k
before_front [] back k h = before_over back k h
before_front (n ∷ front) back k h = grind (arith, before_front front back k h)

pub before_back : (front back : List ℕ) (k : ℕ) → AllUnder k front
    → number_before (front ++ back) k ≡ option_or (number_before back k) (last_number front)
before_back [] back k h = sym (or_none (number_before back k))
before_back (n ∷ front) back k h =
    let rest = before_back front back k h.1 in
    let regroup = or_or (number_before back k) (last_number front) (Some n) in
    grind (arith, nat_tests, rest, regroup, h.0)

-- ---- the ends

first_or : (k n : ℕ) (ns : List ℕ) → AllOver k ns → (n == k) ≡ true
    → is_number k (option_or (last_number ns) (Some n)) ≡ is_none (first_number ns)
first_or k n [] h same = same
first_or k n (x ∷ ns) h same = last_some (last_number ns) (miss_last k ns (over_miss k ns h.1))
  where
    last_some : (o : Option ℕ) → is_number k o ≡ false
        → is_number k (option_or (option_or o (Some x)) (Some n)) ≡ false
    last_some None e = let over : k < x = h.0 in grind (arith, nat_tests, over)
    last_some (Some y) e = e

-- the last of them is the one that none comes after
pub last_end : (ns : List ℕ) (k : ℕ) → Rise ns → has k ns ≡ true
    → is_number k (last_number ns) ≡ is_none (number_after ns k)
last_end [] k h is = absurd (true≢false (sym is))
last_end (n ∷ ns) k h is = by (n == k) refl (last_end ns k h.1)
  where
    by : (b : Bool) → (n == k) ≡ b → (has k ns ≡ true → is_number k (last_number ns) ≡ is_none (number_after ns k))
        → is_number k (last_number (n ∷ ns)) ≡ is_none (number_after (n ∷ ns) k)
    by true e more =
        let same : n ≡ k = grind (arith, nat_tests, e) in
        let over : AllOver k ns = subst (λ (y : ℕ). AllOver y ns) same h.0 in
        let next : number_after (n ∷ ns) k ≡ first_number ns = let rest = after_over ns k over in grind (arith, nat_tests, rest, same) in
        first_or k n ns over e ∙ sym (ap is_none next)
    by false e more =
        let rest_has : has k ns ≡ true = rw e at is in
        let above : n < k = over_has n k ns h.0 rest_has in
        let next : number_after (n ∷ ns) k ≡ number_after ns k = grind (arith, nat_tests, above) in
        is_last_or k n (last_number ns) e ∙ more rest_has ∙ sym (ap is_none next)

or_some : {X : Type 0} (o : Option X) (x : X) → is_none (option_or o (Some x)) ≡ false
or_some None x = refl
or_some (Some y) x = refl

-- the first of them is the one that none comes before
pub first_end : (ns : List ℕ) (k : ℕ) → Rise ns → has k ns ≡ true
    → is_number k (first_number ns) ≡ is_none (number_before ns k)
first_end [] k h is = absurd (true≢false (sym is))
first_end (n ∷ ns) k h is = by (n == k) refl
  where
    by : (b : Bool) → (n == k) ≡ b
        → is_number k (first_number (n ∷ ns)) ≡ is_none (number_before (n ∷ ns) k)
    by true e =
        let same : n ≡ k = grind (arith, nat_tests, e) in
        let over : AllOver k ns = subst (λ (y : ℕ). AllOver y ns) same h.0 in
        let none : number_before (n ∷ ns) k ≡ None = let rest = before_over ns k over in grind (arith, nat_tests, rest, same) in
        e ∙ sym (ap is_none none)
    by false e =
        let above : n < k = over_has n k ns h.0 (rw e at is) in
        let some : number_before (n ∷ ns) k ≡ option_or (number_before ns k) (Some n) = grind (arith, nat_tests, above) in
        e ∙ sym (ap is_none some ∙ or_some (number_before ns k) n)
