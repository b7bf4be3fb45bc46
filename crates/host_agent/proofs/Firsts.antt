-- The first of some.
use Rattle.std.proofs.Common.{◌≡◌, ◌∙◌, ℕ, ◌≤◌, Bool, true, false, nat_le, min, List, length, take, refl, sym, ap, arith}
use Rattle.std.proofs.lemmas.Bool.Decides.{nat_tests}
use Rattle.std.proofs.lemmas.List.{take_all}

-- as many as there are, at most n
pub first_of_all : {X : Type 0} (n : ℕ) (xs : List X) → take (min (length xs) n) xs ≡ take n xs
first_of_all n xs = by (nat_le (length xs) n) refl
  where
    by : (b : Bool) → nat_le (length xs) n ≡ b → take (min (length xs) n) xs ≡ take n xs
    by true is =
        let few : length xs ≤ n = grind (arith, nat_tests) in
        let least : min (length xs) n ≡ length xs = omega arith in
        let all : length xs ≤ length xs = omega arith in
        ap (λ k. take k xs) least ∙ take_all (length xs) xs all ∙ sym (take_all n xs few)
    by false is =
        let many : n ≤ length xs = grind (arith, nat_tests) in
        let least : min (length xs) n ≡ n = omega arith in
        ap (λ k. take k xs) least
