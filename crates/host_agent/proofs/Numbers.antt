-- Numbers that are given back.
use Rattle.std.proofs.Common.{◌≡◌, ℕ, ◌==◌, Bool, true, false, not, ◌||◌, cond, List, [], ◌∷◌, filter, refl, ap}
use Rattle.std.specs.List.{list_any}
use Rattle.agent_spec.specs.Ranges.{Ranges, is_returning, returned}

none_left : (n : ℕ) (ms : List ℕ) → list_any (λ m. m == n) ms ≡ false → filter (λ m. not (m == n)) ms ≡ ms
none_left n [] e = refl
none_left n (m ∷ ms) e = by (m == n) e (none_left n ms)
  where
    by : (b : Bool) → b || list_any (λ x. x == n) ms ≡ false
        → (list_any (λ x. x == n) ms ≡ false → filter (λ x. not (x == n)) ms ≡ ms)
        → cond (not b) (m ∷ filter (λ x. not (x == n)) ms) (filter (λ x. not (x == n)) ms) ≡ m ∷ ms
    by true e more = absurd (cc)
    by false e more = ap (λ xs. m ∷ xs) (more e)

-- one that isn't returning can't leave
pub not_returning : (n : ℕ) (p : Ranges) → is_returning n p ≡ false → returned n p ≡ p
not_returning n p e = ap (λ (ns : List ℕ). record p { returning = ns }) (none_left n p.returning e)
