-- The answers of a clock in memory, call by call.
use Rattle.std.proofs.Common.{◌≡◌, ℕ, suc, ◌+◌, List, [], ◌∷◌, ◌++◌, ap, arith}
use Rattle.outside_io.specs.Memory.{time_at, first_times}

-- one call more, one answer more
pub first_times_next : (times : List ℕ) (n : ℕ)
    → first_times times (n + 1) ≡ first_times times n ++ time_at times n ∷ []
first_times_next times n = ap (λ k. first_times times k) {x = n + 1} {y = suc n} (omega arith)
