-- Which datagram is the first that waits.
use Rattle.std.proofs.Common.{◌≡◌, ◌≤◌, ◌<◌, ◌≢◌, ◌⊎◌, inl, inr, ℕ, zero, suc, ◌+◌, Bool, true, false, ◌&&◌, List, [], ◌∷◌, ◌++◌, length, get_or, set, Some, None, refl, sym, ap, ◌∙◌, length-append, arith}
use Rattle.std.specs.Prelude.{if◌then◌else◌}
use Rattle.std.proofs.lemmas.List.{get_or_default, get_or-set_same, get_or-set_other, get_or_append_left, length-set}
use Rattle.std.proofs.lemmas.Bool.{cases_eq, cases_lt}
use Rattle.world_mail.specs.declared.mail.Posted.{Posted}
use Rattle.world_mail.specs.Mails.{IsMail, is_waiting, least_waiting, no_datagram, waiting_from, waits_at}

-- one place more that doesn't wait
pub none_up_to : (ps : List Posted) (ts : List Bool) (from at : ℕ)
    → ((i : ℕ) → from ≤ i → i < at → waits_at ps ts i ≡ false) → false ≡ waits_at ps ts at
    → (i : ℕ) → from ≤ i → i < at + 1 → waits_at ps ts i ≡ false
none_up_to ps ts from at before here i ge lt = by (cases_lt i at)
  where
    by : (i < at) ⊎ (at ≤ i) → waits_at ps ts i ≡ false
    by (inl low) = before i ge low
    by (inr high) = let e : i ≡ at = omega (arith, lt, high) in ap (waits_at ps ts) e ∙ sym here

-- read at its place
pub waits_is : (ps : List Posted) (ts : List Bool) (i : ℕ) (p d : Posted) → i < length ps → p ≡ get_or ps i d
    → is_waiting p (get_or ts i false) ≡ waits_at ps ts i
unfolding waits_at
waits_is ps ts i p d lt is = ap (λ p. is_waiting p (get_or ts i false)) (is ∙ get_or_default ps i d no_datagram lt)

found : (k n j : ℕ) (ps : List Posted) (ts : List Bool) → j ≡ k + n → length ts ≡ length ps → n < length ps
    → ((i : ℕ) → i < n → waits_at ps ts i ≡ false) → waits_at ps ts n ≡ true → waiting_from k ps ts ≡ Some j
unfolding waits_at
found k n j [] ts is long lt before here = absurd (omega (arith, lt))
found k n j (p ∷ ps) [] is long lt before here = absurd (omega (arith, long))
found k zero j (p ∷ ps) (t ∷ ts) is long lt before here =
    let e : k ≡ j = omega (arith, is) in
    ap (λ b. if b then Some k else waiting_from (k + 1) ps ts) here ∙ ap Some e
found k (suc n) j (p ∷ ps) (t ∷ ts) is long lt before here =
    ap (λ b. if b then Some k else waiting_from (k + 1) ps ts) (before 0 (omega arith))
    ∙ found (k + 1) n j ps ts (omega (arith, is)) (omega (arith, long)) (omega (arith, lt))
    (λ i low. before (suc i) (omega (arith, low))) here

none_found : (k : ℕ) (ps : List Posted) (ts : List Bool) → length ts ≡ length ps
    → ((i : ℕ) → i < length ps → waits_at ps ts i ≡ false) → waiting_from k ps ts ≡ None
unfolding waits_at
none_found k [] ts long none = refl
none_found k (p ∷ ps) [] long none = refl
none_found k (p ∷ ps) (t ∷ ts) long none =
    ap (λ b. if b then Some k else waiting_from (k + 1) ps ts) (none 0 (omega arith))
    ∙ none_found (k + 1) ps ts (omega (arith, long)) (λ i low. none (suc i) (omega (arith, low)))

module _ (ps : List Posted) (ts : List Bool) (cursor : ℕ) (is : IsMail ps ts cursor) where
  none_before : (at : ℕ) → ((i : ℕ) → cursor ≤ i → i < at → waits_at ps ts i ≡ false) → (i : ℕ) → i < at
      → waits_at ps ts i ≡ false
  none_before at before i lt = by (cases_lt i cursor)
    where
      by : (i < cursor) ⊎ (cursor ≤ i) → waits_at ps ts i ≡ false
      by (inl low) = is.before i low
      by (inr high) = before i high lt

  -- the cursor moves up to the first that waits
  pub moved : (at : ℕ) → at ≤ length ps → ((i : ℕ) → cursor ≤ i → i < at → waits_at ps ts i ≡ false) → IsMail ps ts at
  moved at within before = record { marks = is.marks; within = within; before = none_before at before }

  pub least_is : (at : ℕ) → at < length ps → ((i : ℕ) → cursor ≤ i → i < at → waits_at ps ts i ≡ false)
      → waits_at ps ts at ≡ true → Some (at + 1) ≡ least_waiting (record { posted = ps; taken = ts })
  unfolding least_waiting
  least_is at lt before here = sym (found 1 at (at + 1) ps ts (omega arith) is.marks lt (none_before at before) here)

  pub none_is : (at : ℕ) → at ≡ length ps → ((i : ℕ) → cursor ≤ i → i < at → waits_at ps ts i ≡ false)
      → None ≡ least_waiting (record { posted = ps; taken = ts })
  unfolding least_waiting
  none_is at end before = sym (none_found 1 ps ts is.marks (λ i lt. none_before at before i (omega (arith, lt, end))))

and_false : (b : Bool) → (b && false) ≡ false
and_false true = refl
and_false false = refl

-- a datagram that was taken
pub keeps_taken : (ps : List Posted) (ts : List Bool) (cursor k : ℕ) → IsMail ps ts cursor → k < length ps
    → IsMail ps (set ts k true) cursor
unfolding waits_at
keeps_taken ps ts cursor k is here = record { marks = length-set ts k true ∙ is.marks; within = is.within; before = below }
  where
    below : (i : ℕ) → i < cursor → waits_at ps (set ts k true) i ≡ false
    below i lt = by (cases_eq i k)
      where
        by : (i ≡ k) ⊎ (i ≢ k) → is_waiting (get_or ps i no_datagram) (get_or (set ts k true) i false) ≡ false
        by (inl same) = rw (same, get_or-set_same ts k true false (omega (arith, here, is.marks)), and_false) refl
        by (inr other) = rw (get_or-set_other ts k i true false other) (is.before i lt)

-- a datagram more that was sent
pub keeps_posted : (ps : List Posted) (ts : List Bool) (cursor : ℕ) (p : Posted) (t : Bool) → IsMail ps ts cursor
    → IsMail (ps ++ p ∷ []) (ts ++ t ∷ []) cursor
unfolding waits_at
keeps_posted ps ts cursor p t is = record {
  marks = omega (arith, length-append ts (t ∷ []), length-append ps (p ∷ []), is.marks);
  within = omega (arith, length-append ps (p ∷ []), is.within);
  before = below;
}
  where
    below : (i : ℕ) → i < cursor → waits_at (ps ++ p ∷ []) (ts ++ t ∷ []) i ≡ false
    below i lt =
        rw (
          get_or_append_left ps (p ∷ []) no_datagram i (omega (arith, lt, is.within)),
          get_or_append_left ts (t ∷ []) false i (omega (arith, lt, is.within, is.marks)),
        ) (is.before i lt)
