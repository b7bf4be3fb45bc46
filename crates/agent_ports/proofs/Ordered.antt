-- Lists in ascending order, and the place of a number in them.
use Rattle.std.proofs.Common.{◌≡◌, ◌≢◌, ◌||◌, ℕ, zero, suc, ◌+◌, ◌<◌, ◌≤◌, ◌==◌, Bool, true, false, cond, List, [], ◌∷◌, ◌++◌}
use Rattle.std.proofs.Common.{map, length, get_or, set, take, drop, nat_lt, nat_le, min, Some, None, refl, ap, sym, ◌∙◌}
use Rattle.std.proofs.Common.{subst, arith, ⊎_elim}
use Rattle.std.specs.Prelude.{insert, unwrap_or, Option}
use Rattle.std.specs.List.{list_any, position_or_len}
use Rattle.std.proofs.lemmas.Bool.{cases_lt}
use Rattle.std.proofs.lemmas.Bool.Decides.{nat_tests}
use Rattle.std.proofs.lemmas.List.{get_or_default}
use Rattle.std.proofs.lemmas.List.Sums.{position_or_len_is}
use Rattle.std.specs.List.Sorted.{IsNonDecreasingBy, IsPartitionPoint}
use Rattle.wire_core.specs.declared.range.Range.{Range}
use Rattle.wire_core.specs.Same.{same_range}
use Rattle.agent_spec.specs.declared.held.Held.{Held}
use Rattle.agent_spec.specs.Ranges.{at_number, clashes, place_for}
use Rattle.agent_ports.specs.Leases.{held_number}
use Rattle.agent_ports.specs.Order.{AllAbove, Ascend, SplitsAt, HasAt, Lacks}

module _ (X : Type 0) (key : X → ℕ) where
  pub above_at : (n : ℕ) (xs : List X) (j : ℕ) (d : X) → AllAbove key n xs → j < length xs → n < key (get_or xs j d)
  above_at n [] j d h within = absurd (omega arith)
  above_at n (x ∷ xs) zero d h within = h.0
  above_at n (x ∷ xs) (suc j) d h within = above_at n xs j d h.1 (omega arith)

  pub ascend_pair : (xs : List X) (i j : ℕ) (d : X) → Ascend key xs → i < j → j < length xs
      → key (get_or xs i d) < key (get_or xs j d)
  ascend_pair [] i j d h less within = absurd (omega arith)
  ascend_pair (x ∷ xs) i zero d h less within = absurd (omega arith)
  ascend_pair (x ∷ xs) zero (suc j) d h less within = above_at (key x) xs j d h.0 (omega arith)
  ascend_pair (x ∷ xs) (suc i) (suc j) d h less within = ascend_pair xs i j d h.1 (omega arith) (omega arith)

  -- what a binary search asks
  pub ascend_by : (xs : List X) → Ascend key xs → IsNonDecreasingBy key xs
  ascend_by xs h i j d low within =
      ⊎_elim
      (λ less. let p : key (get_or xs i d) < key (get_or xs j d) = ascend_pair xs i j d h less within in omega arith)
      (λ other.
      let same : i ≡ j = omega arith in
      subst (λ (k : ℕ). key (get_or xs i d) ≤ key (get_or xs k d)) same (omega arith))
      (cases_lt i j)

  pub split_below : (n : ℕ) (xs : List X) (i : ℕ) → i ≤ length xs
      → IsPartitionPoint (λ (x : X). nat_lt (key x) n ≡ true) (λ (x : X). nat_lt (key x) n ≡ false) xs i
      → SplitsAt key n xs i
  split_below n xs i within h = record {
    within = within;
    front = λ k d less. grind (arith, nat_tests, h.0 k d (omega arith) less);
    back = λ k d from to. grind (arith, nat_tests, h.1 k d from to);
  }

  -- the first that isn't below n has another number
  pub lacks : (n : ℕ) (xs : List X) (i : ℕ) (d : X) → Ascend key xs → SplitsAt key n xs i
      → (i < length xs → key (get_or xs i d) ≢ n) → Lacks key n xs
  lacks n xs i d h split other k e within same =
      ⊎_elim
      (λ less. let p : key (get_or xs k e) < n = split.front k e less in omega arith)
      (λ rest.
      ⊎_elim
      (λ more.
      let p : key (get_or xs i e) < key (get_or xs k e) = ascend_pair xs i k e h more within in
      let q : n ≤ key (get_or xs i e) = split.back i e (omega arith) (omega arith) in
      omega arith)
      (λ last.
      let here : k ≡ i = omega arith in
      let at : i < length xs = omega arith in
      other at (ap key (get_or_default xs i d e at) ∙ subst (λ (j : ℕ). key (get_or xs j e) ≡ n) here same))
      (cases_lt i k))
      (cases_lt k i)

-- ---- an edit of the range with the number is an edit of each range with the number

module _ (n : ℕ) (f : Held → Held) where
  at_none : (m : ℕ) (hs : List Held) → n ≤ m → AllAbove held_number m hs → map (at_number n f) hs ≡ hs
  at_none m [] le h = refl
  at_none m (x ∷ hs) le h = grind (arith, nat_tests, at_none m hs le h.1, h.0)

  pub map_lacks : (hs : List Held) → Lacks held_number n hs → hs ≡ map (at_number n f) hs
  map_lacks [] h = refl
  map_lacks (x ∷ hs) h =
      let rest : hs ≡ map (at_number n f) hs = map_lacks hs (λ k d within. h (suc k) d (omega arith)) in
      let other : x.n ≢ n = h zero x (omega arith) in
      grind (arith, nat_tests, rest, other)

  pub set_map : (hs : List Held) (i : ℕ) (d : Held) → Ascend held_number hs → HasAt held_number n hs i
      → set hs i (f (get_or hs i d)) ≡ map (at_number n f) hs
  set_map [] i d h at = absurd (let w : i < 0 = at.within in omega arith)
  set_map (x ∷ hs) zero d h at =
      let same : x.n ≡ n = at.number d in
      let rest : map (at_number n f) hs ≡ hs = at_none x.n hs (omega arith) h.0 in
      grind (arith, nat_tests, same, rest)
  set_map (x ∷ hs) (suc i) d h at =
      let w : suc i < length (x ∷ hs) = at.within in
      let rest : set hs i (f (get_or hs i d)) ≡ map (at_number n f) hs =
      set_map hs i d h.1 (record { within = omega arith; number = at.number }) in
      let above : x.n < (get_or hs i d).n = above_at Held held_number x.n hs i d h.0 (omega arith) in
      let same : (get_or hs i d).n ≡ n = at.number d in
      let other : x.n ≢ n = λ p. omega arith in
      grind (arith, nat_tests, rest, other)

-- ---- a new number

pub place_is : (n : ℕ) (hs : List Held) (i : ℕ) → SplitsAt held_number n hs i → i ≡ place_for n hs
place_is n [] i split = let w = split.within in omega arith
place_is n (x ∷ hs) i split = by i split.within first
  where
    first : position_or_len (λ h. nat_le n h.n) (x ∷ hs) ≡ i
    first =
        position_or_len_is (λ h. nat_le n h.n) (x ∷ hs) i x split.within
        (λ k less. grind (arith, nat_tests, split.front k x less))
        (λ less. grind (arith, nat_tests, split.back i x (omega arith) less))

    by : (i : ℕ) → i ≤ length (x ∷ hs) → position_or_len (λ h. nat_le n h.n) (x ∷ hs) ≡ i → i ≡ place_for n (x ∷ hs)
    by i le e = rw e (last i (length (x ∷ hs)) le)
      where
        last : (i m : ℕ) → i ≤ m → i ≡ min (unwrap_or (cond (nat_lt i m) (Some i) None) m) m
        last i m le = tested (nat_lt i m) refl
          where
            tested : (b : Bool) → nat_lt i m ≡ b → i ≡ min (unwrap_or (cond b (Some i) None) m) m
            tested true e = omega arith
            tested false e = grind (arith, nat_tests, le, e)

lesser_above : (m n : ℕ) (hs : List Held) → m ≤ n → AllAbove held_number n hs → AllAbove held_number m hs
lesser_above m n [] le h = tt
lesser_above m n (x ∷ hs) le h = (omega (arith, h.0), lesser_above m n hs le h.1)

above_insert : (m : ℕ) (hs : List Held) (i : ℕ) (x : Held) → m < x.n → AllAbove held_number m hs
    → AllAbove held_number m (insert hs i x)
above_insert m [] zero x lt h = (lt, tt)
above_insert m [] (suc i) x lt h = (lt, tt)
above_insert m (y ∷ hs) zero x lt h = (lt, h)
above_insert m (y ∷ hs) (suc i) x lt h = (h.0, above_insert m hs i x lt h.1)

split_tail : (n : ℕ) (y : Held) (hs : List Held) (i : ℕ) → SplitsAt held_number n (y ∷ hs) (suc i)
    → SplitsAt held_number n hs i
split_tail n y hs i split = record {
  within = (let w = split.within in omega arith);
  front = λ k d less. split.front (suc k) d (omega arith);
  back = λ k d from to. split.back (suc k) d (omega arith) (omega arith);
}

either_false : (a b : Bool) → (a || b) ≡ false → (a ≡ false) × (b ≡ false)
either_false true b e = absurd (cc)
either_false false b e = (refl, e)

pub ascend_insert : (hs : List Held) (i : ℕ) (x : Held) → Ascend held_number hs → SplitsAt held_number x.n hs i
    → list_any (λ h. h.n == x.n) hs ≡ false → Ascend held_number (insert hs i x)
ascend_insert [] zero x h split new = (tt, tt)
ascend_insert [] (suc i) x h split new = (tt, tt)
ascend_insert (y ∷ hs) zero x h split new =
    let s : ((y.n == x.n) ≡ false) × (list_any (λ h. h.n == x.n) hs ≡ false) = either_false (y.n == x.n) _ new in
    let le : x.n ≤ y.n = split.back 0 y (omega arith) (omega arith) in
    let lt : x.n < y.n = grind (arith, nat_tests, le, s.0) in
    ((lt, lesser_above x.n y.n hs (omega arith) h.0), h)
ascend_insert (y ∷ hs) (suc i) x h split new =
    let s : ((y.n == x.n) ≡ false) × (list_any (λ h. h.n == x.n) hs ≡ false) = either_false (y.n == x.n) _ new in
    let lt : y.n < x.n = split.front 0 y (omega arith) in
    (above_insert y.n hs i x lt h.0, ascend_insert hs i x h.1 (split_tail x.n y hs i split) s.1)

pub ascend_push : (hs : List Held) (x : Held) → Ascend held_number hs
    → SplitsAt held_number x.n hs (length hs) → Ascend held_number (hs ++ x ∷ [])
ascend_push [] x h split = (tt, tt)
ascend_push (y ∷ hs) x h split =
    let lt : y.n < x.n = split.front 0 y (omega arith) in
    (above_push y.n hs x lt h.0, ascend_push hs x h.1 (split_tail x.n y hs (length hs) split))
  where
    above_push : (m : ℕ) (hs : List Held) (x : Held) → m < x.n → AllAbove held_number m hs
        → AllAbove held_number m (hs ++ x ∷ [])
    above_push m [] x lt h = (lt, tt)
    above_push m (y ∷ hs) x lt h = (h.0, above_push m hs x lt h.1)

pub insert_last : (hs : List Held) (x : Held) → insert hs (length hs) x ≡ hs ++ x ∷ []
insert_last [] x = refl
insert_last (y ∷ hs) x = ap (λ (l : List Held). y ∷ l) (insert_last hs x)

pub inserted_ascend : (hs now new : List Held) (i : ℕ) (x : Held) → Ascend held_number hs → hs ≡ now
    → SplitsAt held_number x.n now i → list_any (λ h. h.n == x.n) now ≡ false → new ≡ insert hs i x
    → Ascend held_number new
inserted_ascend hs now new i x h is split other e =
    subst (Ascend held_number) (sym e)
    (ascend_insert hs i x h
    (subst (λ (l : List Held). SplitsAt held_number x.n l i) (sym is) split)
    (ap (λ (l : List Held). list_any (λ h. h.n == x.n) l) is ∙ other))

-- what isn't old has a new number
pub fresh : (hs read : List Held) (n : ℕ) (r : Range) (a b : Bool) → read ≡ hs → (clashes read n r || a || b) ≡ false
    → list_any (λ h. h.n == n) hs ≡ false
fresh hs read n r a b is e = by hs (ap (λ (l : List Held). clashes l n r) (sym is) ∙ first (clashes read n r) a b e)
  where
    first : (x a b : Bool) → (x || a || b) ≡ false → x ≡ false
    first true a b e = absurd (cc)
    first false a b e = refl

    by : (hs : List Held) → clashes hs n r ≡ false → list_any (λ h. h.n == n) hs ≡ false
    by [] e = refl
    by (h ∷ hs) e =
        let s : ((h.n == n || same_range h.range r) ≡ false) × (clashes hs n r ≡ false) =
        either_false (h.n == n || same_range h.range r) _ e in
        let t : ((h.n == n) ≡ false) × (same_range h.range r ≡ false) = either_false (h.n == n) _ s.0 in
        rw t.0 (by hs s.1)
