-- The parts of a text.
use Rattle.std.proofs.lemmas.Bool.{ltb-true, ltb-false}
use Rattle.std.proofs.Common.{◌≡◌, ℕ, suc, not, subst, ◌+◌, ◌<◌, ◌≤◌, Bool, true, false, cond, nat_lt, ◌==◌, List, []}
use Rattle.std.proofs.Common.{◌∷◌, length, take, drop, None, Some, refl, ap, arith}
use Rattle.std.specs.List.{slice_split, onto_first, position, position_or_len}
use Rattle.std.proofs.lemmas.List.Splits.{slice_split_first, length-slice_split}
use Rattle.std.proofs.lemmas.List.Sums.{count_by-le-length}
use Rattle.address_text.specs.Fields.{parts, two_of, three_of, four_of}

-- a text has at least one part
pub parts_some : (s : ℕ) (bytes : List ℕ) → (x : List ℕ) × (xs : List (List ℕ)) × (parts s bytes ≡ x ∷ xs)
parts_some s [] = ([], [], refl)
parts_some s (b ∷ bs) =
    let m = parts_some s bs in
    elim (b == s) as (λ t. (x : List ℕ) × (xs : List (List ℕ))
    × (cond t ([] ∷ parts s bs) (onto_first b (parts s bs)) ≡ x ∷ xs)) [
      | true ↦ ([], parts s bs, refl)
      | false ↦ (b ∷ m.0, m.1, ap (onto_first b) m.2)
    ]

pub two_more : (s : ℕ) (a b rest : List ℕ) → two_of (a ∷ b ∷ parts s rest) ≡ None
two_more s a b rest = let m = parts_some s rest in rw m.2 refl

pub three_more : (s : ℕ) (a b c rest : List ℕ) → three_of (a ∷ b ∷ c ∷ parts s rest) ≡ None
three_more s a b c rest = let m = parts_some s rest in rw m.2 refl

pub four_more : (s : ℕ) (a b c d rest : List ℕ) → four_of (a ∷ b ∷ c ∷ d ∷ parts s rest) ≡ None
four_more s a b c d rest = let m = parts_some s rest in rw m.2 refl

-- where no separator stands
no_cut : (p : ℕ → Bool) (xs : List ℕ) → length xs ≤ position_or_len p xs → slice_split p xs ≡ xs ∷ []
no_cut p [] h = refl
no_cut p (x ∷ xs) h =
    elim (p x) as (λ t. suc (length xs) ≤ cond (not t) (1 + position_or_len p xs) 0
    → cond t ([] ∷ slice_split p xs) (onto_first x (slice_split p xs)) ≡ (x ∷ xs) ∷ []) [
      | true ↦ λ g. absurd (omega arith)
      | false ↦ λ g. ap (onto_first x) (no_cut p xs (omega arith))
    ] h

found : (t : Bool) (n at : ℕ) → Some at ≡ cond t (Some n) None → (t ≡ true) × (n ≡ at)
found true n at e = (refl, cc)
found false n at e = absurd cc

missed : (t : Bool) (n : ℕ) → None ≡ cond t (Some n) None → t ≡ false
missed true n e = absurd cc
missed false n e = refl

pub cut_none : (s : ℕ) (bytes : List ℕ) → None ≡ position (λ b. b == s) bytes → parts s bytes ≡ bytes ∷ []
cut_none s bytes e =
    let m =
    missed (nat_lt (position_or_len (λ b. b == s) bytes) (length bytes)) (position_or_len (λ b. b == s) bytes) e in
    no_cut (λ b. b == s) bytes (ltb-false _ _ m)

pub cut_some : (s at : ℕ) (bytes : List ℕ) → Some at ≡ position (λ b. b == s) bytes
    → (parts s bytes ≡ take at bytes ∷ parts s (drop (at + 1) bytes)) × (at < length bytes)
cut_some s at bytes e =
    let m =
    found (nat_lt (position_or_len (λ b. b == s) bytes) (length bytes)) (position_or_len (λ b. b == s) bytes) at e in
    let within : position_or_len (λ b. b == s) bytes < length bytes = ltb-true _ _ m.0 in (
      subst (λ (n : ℕ). parts s bytes ≡ take n bytes ∷ parts s (drop (n + 1) bytes)) m.1
          (slice_split_first (λ b. b == s) bytes 0 within),
      rw (← m.1) within,
    )

-- a text has at most one part more than bytes
pub parts_few : (s : ℕ) (bytes first : List ℕ) (rest : List (List ℕ)) → parts s bytes ≡ first ∷ rest
    → length rest ≤ length bytes
parts_few s bytes first rest e =
    omega (arith, ap length e, length-slice_split (λ b. b == s) bytes, count_by-le-length (λ b. b == s) bytes)
