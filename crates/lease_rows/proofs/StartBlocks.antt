-- Flags and their blocks: the first flag that is set, a flag that is written, no flags.
use Rattle.std.proofs.Common.{◌≡◌, ℕ, zero, suc, ◌+◌, ◌-◌, ◌*◌, ◌<◌, ◌≤◌, Bool, true, false, List, [], ◌∷◌, ◌++◌, take, drop, set, replicate, length, get_or, Some, None, refl, ap, sym, ◌∙◌, subst, arith}
use Rattle.std.proofs.Math.Nat.{mul-suc}
use Rattle.std.proofs.lemmas.List.{length-drop, drop-set-add, drop-set-lt, take-set-le, nil_from_length}
use Rattle.lease_rows.specs.Starts.{IsFound, Summarizes, any_set, first_flag}

drop_nil : {X : Type 0} (n : ℕ) → drop {A = X} n [] ≡ []
drop_nil zero = refl
drop_nil (suc n) = refl

pub drop_again : {X : Type 0} (n m k : ℕ) (flags : List X) → k ≡ n + m → drop m (drop n flags) ≡ drop k flags
drop_again zero m k flags is = let same : m ≡ k = omega arith in ap (λ x. drop x flags) same
drop_again (suc n) m k [] is = drop_nil m ∙ sym (drop_nil k)
drop_again (suc n) m zero (flag ∷ flags) is = absurd (omega arith)
drop_again (suc n) m (suc k) (flag ∷ flags) is = drop_again n m k flags (omega arith)

-- ---- the first flag

skip : (n place next : ℕ) (flags : List Bool) → next ≡ place + 8 * n → any_set (take n flags) ≡ false → first_flag 8 place flags ≡ first_flag 8 next (drop n flags)
skip zero place next flags is none = let same : next ≡ place = omega arith in rw same refl
skip (suc n) place next [] is none = refl
skip (suc n) place next (flag ∷ flags) is none =
    let rest = skip n (place + 8) next flags (omega arith) in
    grind (arith, rest, none)

some_set : (n : ℕ) (flags : List Bool) → any_set (take n flags) ≡ true → 0 < length flags
some_set n [] h = absurd (some_none n h)
  where
    some_none : (n : ℕ) → any_set (take n []) ≡ true → ⊥
    some_none zero h = cc
    some_none (suc n) h = cc
some_set n (flag ∷ flags) h = omega arith

pub found : (size wide place t : ℕ) (blocks flags : List Bool) → wide ≡ 8 * size → Summarizes size blocks flags → first_flag wide place blocks ≡ Some t → IsFound flags place t
found size wide place t [] flags is sums some = absurd (cc)
found size wide place t (block ∷ blocks) flags is sums some = by block refl (found size wide (place + wide) t blocks (drop size flags) is sums.1)
  where
    by : (b : Bool) → block ≡ b → (first_flag wide (place + wide) blocks ≡ Some t → IsFound (drop size flags) (place + wide) t) → IsFound flags place t
    by true e more =
        let here = rw e at some in
        let at : place ≡ t = cc in
        record {
          index = 0;
          at = omega arith;
          within = some_set size flags (sym sums.0 ∙ e);
          same = ap (λ x. first_flag 8 x flags) at;
        }
    by false e more =
        let rest = more (rw e at some) in
        let inside : rest.index < length (drop size flags) = rest.within in
        let long : length (drop size flags) ≡ length flags - size = length-drop size flags in
        record {
          index = size + rest.index;
          at = let at : t ≡ place + wide + 8 * rest.index = rest.at in omega arith;
          within = omega arith;
          same = skip size place (place + wide) flags (omega arith) (sym sums.0 ∙ e) ∙ rest.same ∙ ap (first_flag 8 t) (drop_again size rest.index (size + rest.index) flags refl);
        }

pub not_found : (size wide place : ℕ) (blocks flags : List Bool) → wide ≡ 8 * size → Summarizes size blocks flags → first_flag wide place blocks ≡ None → first_flag 8 place flags ≡ None
not_found size wide place [] flags is sums none = ap (first_flag 8 place) sums
not_found size wide place (block ∷ blocks) flags is sums none = by block refl (not_found size wide (place + wide) blocks (drop size flags) is sums.1)
  where
    by : (b : Bool) → block ≡ b → (first_flag wide (place + wide) blocks ≡ None → first_flag 8 (place + wide) (drop size flags) ≡ None) → first_flag 8 place flags ≡ None
    by true e more = let here = rw e at none in absurd (cc)
    by false e more = skip size place (place + wide) flags (omega arith) (sym sums.0 ∙ e) ∙ more (rw e at none)

pub first_flag-bound : (place t : ℕ) (flags : List Bool) → first_flag 8 place flags ≡ Some t → t < place + 8 * length flags
first_flag-bound place t [] some = absurd (cc)
first_flag-bound place t (flag ∷ flags) some = by flag refl (first_flag-bound (place + 8) t flags)
  where
    by : (b : Bool) → flag ≡ b → (first_flag 8 (place + 8) flags ≡ Some t → t < place + 8 + 8 * length flags) → t < place + 8 * length (flag ∷ flags)
    by true e more = let here = rw e at some in let at : place ≡ t = cc in omega arith
    by false e more = let rest = more (rw e at some) in omega arith

-- ---- blocks cover the flags

pub covered : (size : ℕ) (blocks flags : List Bool) → Summarizes size blocks flags → length flags ≤ size * length blocks
covered size [] flags sums = let none : length flags ≡ 0 = ap length sums in omega arith
covered size (block ∷ blocks) flags sums =
    let rest = covered size blocks (drop size flags) sums.1 in
    let long : length (drop size flags) ≡ length flags - size = length-drop size flags in
    let more : size * suc (length blocks) ≡ size * length blocks + size = mul-suc size (length blocks) in
    omega (arith, rest, long, more)

-- each block tells of its flags, and there are blocks for all
pub summed : (size : ℕ) (blocks flags : List Bool)
    → ((k : ℕ) → k < length blocks → get_or blocks k false ≡ any_set (take size (drop (size * k) flags)))
    → length flags ≤ size * length blocks → Summarizes size blocks flags
summed size [] flags each long = nil_from_length flags (omega arith)
summed size (block ∷ blocks) flags each long =
    let more : size * suc (length blocks) ≡ size * length blocks + size = mul-suc size (length blocks) in
    let short : length (drop size flags) ≡ length flags - size = length-drop size flags in
    let start : size * 0 ≡ 0 = omega arith in
    let here : block ≡ any_set (take size flags) = each zero (omega arith) ∙ ap (λ n. any_set (take size (drop n flags))) start in
    let rest : (k : ℕ) → k < length blocks → get_or blocks k false ≡ any_set (take size (drop (size * k) (drop size flags))) = λ k lt.
    let step : size * suc k ≡ size + size * k = let one = mul-suc size k in omega (arith, one) in
    each (suc k) (omega arith) ∙ ap (λ xs. any_set (take size xs)) (sym (drop_again size (size * k) (size * suc k) flags step)) in
    (here, summed size blocks (drop size flags) rest (omega (arith, more, short, long)))

-- ---- one flag is written

pub set_block : (size : ℕ) (flag : Bool) (blocks flags : List Bool) (j r at k : ℕ) → at ≡ size * j → k ≡ at + r → r < size → Summarizes size blocks flags
    → Summarizes size (set blocks j (any_set (take size (drop at (set flags k flag))))) (set flags k flag)
set_block size flag [] flags j r at k is here small sums = rw sums refl
set_block size flag (block ∷ blocks) flags zero r at k is here small sums =
    let start : at ≡ 0 = omega arith in
    let kept = drop-set-lt size flags k flag (omega arith) in
    (rw start refl, subst (Summarizes size blocks) (sym kept) sums.1)
set_block size flag (block ∷ blocks) flags (suc j) r at k is here small sums =
    let more : size * suc j ≡ size * j + size = mul-suc size j in
    let index : k ≡ size + (size * j + r) = omega (arith, more) in
    let front : take size (set flags k flag) ≡ take size flags = take-set-le size flags k flag (omega arith) in
    let back : drop size (set flags k flag) ≡ set (drop size flags) (size * j + r) flag = ap (λ x. drop size (set flags x flag)) index ∙ drop-set-add size flags (size * j + r) flag in
    let again : drop at (set flags k flag) ≡ drop (size * j) (set (drop size flags) (size * j + r) flag) =
    sym (drop_again size (size * j) at (set flags k flag) (omega (arith, more))) ∙ ap (drop (size * j)) back in
    let rest = set_block size flag blocks (drop size flags) j r (size * j) (size * j + r) refl refl small sums.1 in (
      sums.0 ∙ sym (ap any_set front),
      subst (Summarizes size (set blocks j (any_set (take size (drop at (set flags k flag)))))) (sym back)
          (subst (λ xs. Summarizes size (set blocks j (any_set (take size xs))) (set (drop size flags) (size * j + r) flag)) (sym again) rest),
    )

-- ---- no flag

take_none : (n : ℕ) (flags : List Bool) → any_set flags ≡ false → any_set (take n flags) ≡ false
take_none zero flags h = refl
take_none (suc n) [] h = refl
take_none (suc n) (flag ∷ flags) h = grind (arith, take_none n flags, h)

drop_none : (n : ℕ) (flags : List Bool) → any_set flags ≡ false → any_set (drop n flags) ≡ false
drop_none zero flags h = h
drop_none (suc n) [] h = refl
drop_none (suc n) (flag ∷ flags) h = grind (arith, drop_none n flags, h)

pub replicate_none : (n : ℕ) → any_set (replicate n false) ≡ false
replicate_none zero = refl
replicate_none (suc n) = replicate_none n

pub resized_none : (xs ys : List Bool) (n k : ℕ) → ys ≡ take n xs ++ replicate k false → xs ≡ [] → any_set ys ≡ false
resized_none xs ys n k is none = ap any_set (is ∙ ap (λ x. take n x ++ replicate k false) none) ∙ by n
  where
    by : (n : ℕ) → any_set (take n [] ++ replicate k false) ≡ false
    by zero = replicate_none k
    by (suc n) = replicate_none k

pub none_set : (size : ℕ) (blocks flags : List Bool) → any_set blocks ≡ false → any_set flags ≡ false → length flags ≡ size * length blocks → Summarizes size blocks flags
none_set size [] flags none clear long = nil_from_length flags (omega arith)
none_set size (block ∷ blocks) flags none clear long =
    let more : size * suc (length blocks) ≡ size * length blocks + size = mul-suc size (length blocks) in
    let short : length (drop size flags) ≡ length flags - size = length-drop size flags in
    let first : block ≡ false = grind (arith, none) in
    let others : any_set blocks ≡ false = grind (arith, none) in
    (first ∙ sym (take_none size flags clear), none_set size blocks (drop size flags) others (drop_none size flags clear) (omega (arith, more, short, long)))
