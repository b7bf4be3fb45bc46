-- The answers of a link in memory, call by call.
use Rattle.std.proofs.Common.{◌≡◌, ℕ, suc, ◌+◌, List, [], ◌∷◌, ◌++◌, ap, arith}
use Rattle.outside_io.specs.declared.mem_link.MemAnswer.{MemAnswer}
use Rattle.outside_io.specs.MemoryLink.{answer_at, first_answers}

-- one call more, one answer more
pub first_answers_next : (room : ℕ) (list : List MemAnswer) (n : ℕ)
    → first_answers room list (n + 1) ≡ first_answers room list n ++ answer_at room list n ∷ []
first_answers_next room list n = ap (λ k. first_answers room list k) {x = n + 1} {y = suc n} (omega arith)
