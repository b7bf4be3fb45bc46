-- One line after the other.
use Rattle.std.proofs.Common.{◌≡◌, ◌∙◌, ℕ, suc, ◌+◌, List, [], ◌++◌, sym, subst, append_assoc, append-nil}
use Rattle.generated_schedule.specs.Generated.{line_at, lines_from, time_after}

by_pair : {S : Type 0} (step : S → ℕ × S) (m t t' w : ℕ) (s : S) (p : ℕ × S) (front out total : List ℕ)
    → (w, s) ≡ p → t' ≡ time_after t w → out ≡ front ++ line_at t' w
    → front ++ (line_at (time_after t p.0) p.0 ++ lines_from step m (time_after t p.0) p.1) ≡ total
    → out ++ lines_from step m t' s ≡ total
by_pair step m t t' w s p front out total e et eo so_far =
    let own = subst (λ (q : ℕ × _). front ++ (line_at (time_after t q.0) q.0 ++ lines_from step m (time_after t q.0) q.1) ≡ total) (sym e) so_far in
    rw (eo, et) (append_assoc front (line_at (time_after t w) w) (lines_from step m (time_after t w) s) ∙ own)

pub line_more : {S : Type 0} (step : S → ℕ × S) (n m t t' w : ℕ) (old s : S) (front out total : List ℕ)
    → n ≡ suc m → (w, s) ≡ step old → t' ≡ time_after t w → out ≡ front ++ line_at t' w
    → front ++ lines_from step n t old ≡ total → out ++ lines_from step m t' s ≡ total
unfolding lines_from
line_more step n m t t' w old s front out total en e et eo so_far =
    by_pair step m t t' w s (step old) front out total e et eo (subst (λ (k : ℕ). front ++ lines_from step k t old ≡ total) en so_far)

pub lines_end : {S : Type 0} (step : S → ℕ × S) (n t : ℕ) (s : S) (front total : List ℕ) → n ≡ 0 → front ++ lines_from step n t s ≡ total → front ≡ total
unfolding lines_from
lines_end step n t s front total en so_far =
    sym (append-nil front) ∙ subst (λ (k : ℕ). front ++ lines_from step k t s ≡ total) en so_far
