-- Entries in ascending order, and the place of a number among them.
use Rattle.std.proofs.Common.{◌≡◌, ◌≢◌, ℕ, zero, suc, ◌+◌, ◌<◌, ◌≤◌, true, false, List, [], ◌∷◌, map, length, get_or, set, nat_lt, nat_le, refl, ap, ◌∙◌, subst, arith, ⊎_elim}
use Rattle.std.proofs.lemmas.Bool.{cases_lt}
use Rattle.std.proofs.lemmas.Bool.Decides.{nat_tests}
use Rattle.std.proofs.lemmas.List.{get_or_default}
use Rattle.std.specs.List.Sorted.{IsNonDecreasingBy, IsPartitionPoint}
use Rattle.lease_rows.specs.declared.entries.Entry.{Entry}
use Rattle.lease_rows.specs.Entries.{AllAbove, Ascend, SplitsAt, HasAt, Lacks, at_number}

pub above_at : (n : ℕ) (es : List Entry) (j : ℕ) (d : Entry) → AllAbove n es → j < length es → n < (get_or es j d).row.n
above_at n [] j d h within = absurd (omega arith)
above_at n (e ∷ es) zero d h within = h.0
above_at n (e ∷ es) (suc j) d h within = above_at n es j d h.1 (omega arith)

pub ascend_pair : (es : List Entry) (i j : ℕ) (d : Entry) → Ascend es → i < j → j < length es → (get_or es i d).row.n < (get_or es j d).row.n
ascend_pair [] i j d h less within = absurd (omega arith)
ascend_pair (e ∷ es) i zero d h less within = absurd (omega arith)
ascend_pair (e ∷ es) zero (suc j) d h less within = above_at e.row.n es j d h.0 (omega arith)
ascend_pair (e ∷ es) (suc i) (suc j) d h less within = ascend_pair es i j d h.1 (omega arith) (omega arith)

-- what a binary search asks
pub ascend_by : (es : List Entry) → Ascend es → IsNonDecreasingBy (λ (e : Entry). e.row.n) es
ascend_by es h i j d low within =
    ⊎_elim (λ less. let p : (get_or es i d).row.n < (get_or es j d).row.n = ascend_pair es i j d h less within in omega arith)
    (λ other. let same : i ≡ j = omega arith in subst (λ (k : ℕ). (get_or es i d).row.n ≤ (get_or es k d).row.n) same (omega arith))
    (cases_lt i j)

-- the first entry that isn't below n has another number
pub lacks : (n : ℕ) (es : List Entry) (i : ℕ) (d : Entry) → Ascend es → SplitsAt n es i → (i < length es → (get_or es i d).row.n ≢ n) → Lacks n es
lacks n es i d h split other k e within same =
    ⊎_elim (λ less. let p : (get_or es k e).row.n < n = split.front k e less in omega arith)
    (λ rest. ⊎_elim
    (λ more. let p : (get_or es i e).row.n < (get_or es k e).row.n = ascend_pair es i k e h more within in
    let q : n ≤ (get_or es i e).row.n = split.back i e (omega arith) (omega arith) in omega arith)
    (λ last.
    let here : k ≡ i = omega arith in
    let at : i < length es = omega arith in
    other at (ap (λ (x : Entry). x.row.n) (get_or_default es i d e at) ∙ subst (λ (j : ℕ). (get_or es j e).row.n ≡ n) here same))
    (cases_lt i k))
    (cases_lt k i)

pub split_below : (n : ℕ) (es : List Entry) (i : ℕ) → i ≤ length es → IsPartitionPoint (λ (e : Entry). nat_lt e.row.n n ≡ true) (λ (e : Entry). nat_lt e.row.n n ≡ false) es i → SplitsAt n es i
split_below n es i within h = record {
  within = within;
  front = λ k d less. grind (arith, nat_tests, h.0 k d (omega arith) less);
  back = λ k d from to. grind (arith, nat_tests, h.1 k d from to);
}

pub split_up_to : (n : ℕ) (es : List Entry) (i : ℕ) → i ≤ length es → IsPartitionPoint (λ (e : Entry). nat_le e.row.n n ≡ true) (λ (e : Entry). nat_le e.row.n n ≡ false) es i → SplitsAt (n + 1) es i
split_up_to n es i within h = record {
  within = within;
  front = λ k d less. grind (arith, nat_tests, h.0 k d (omega arith) less);
  back = λ k d from to. grind (arith, nat_tests, h.1 k d from to);
}

-- an edit of the entry with the number is an edit of each entry with the number
module _ (n : ℕ) (f : Entry → Entry) where
  at_none : (m : ℕ) (es : List Entry) → n ≤ m → AllAbove m es → map (at_number n f) es ≡ es
  at_none m [] le h = refl
  at_none m (e ∷ es) le h = grind (arith, nat_tests, at_none m es le h.1, h.0)

  pub map_lacks : (es : List Entry) → Lacks n es → es ≡ map (at_number n f) es
  map_lacks [] h = refl
  map_lacks (e ∷ es) h =
      let rest : es ≡ map (at_number n f) es = map_lacks es (λ k d within. h (suc k) d (omega arith)) in
      let other : e.row.n ≢ n = h zero e (omega arith) in
      grind (arith, nat_tests, rest, other)

  pub set_map : (es : List Entry) (i : ℕ) (d : Entry) → Ascend es → HasAt n es i → set es i (f (get_or es i d)) ≡ map (at_number n f) es
  set_map [] i d h at = absurd (let w : i < 0 = at.within in omega arith)
  set_map (e ∷ es) zero d h at =
      let same : e.row.n ≡ n = at.number d in
      let rest : map (at_number n f) es ≡ es = at_none e.row.n es (omega arith) h.0 in
      grind (arith, nat_tests, same, rest)
  set_map (e ∷ es) (suc i) d h at =
      let w : suc i < length (e ∷ es) = at.within in
      let rest : set es i (f (get_or es i d)) ≡ map (at_number n f) es = set_map es i d h.1 (record { within = omega arith; number = at.number }) in
      let above : e.row.n < (get_or es i d).row.n = above_at e.row.n es i d h.0 (omega arith) in
      let same : (get_or es i d).row.n ≡ n = at.number d in
      let other : e.row.n ≢ n = λ p. omega arith in
      grind (arith, nat_tests, rest, other)

  -- the same of an entry that was read from an equal list
  pub set_read : (es read : List Entry) (i : ℕ) (d : Entry) → read ≡ es → Ascend es → HasAt n es i
      → set es i (f (get_or read i d)) ≡ map (at_number n f) es
  set_read es read i d is h at = ap (λ xs. set es i (f (get_or xs i d))) is ∙ set_map es i d h at
