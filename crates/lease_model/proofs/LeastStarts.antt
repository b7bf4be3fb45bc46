-- The search for the least start.
use Rattle.std.proofs.Common.{◌≡◌, ◌∙◌, ℕ, zero, suc, ◌+◌, Bool, true, false, Option, Some, None, refl, sym, ap, subst, arith}
use Rattle.lease_spec.specs.Free.{first_start}

pub start_goes : (passes : ℕ → Bool) (left more start : ℕ) (all : Option ℕ) → left ≡ suc more → passes start ≡ false
    → first_start passes left start ≡ all → first_start passes more (start + 8) ≡ all
unfolding first_start
start_goes passes left more start all e is so_far = rw (e, is) at so_far

pub start_found : (passes : ℕ → Bool) (left more start : ℕ) (all : Option ℕ) → left ≡ suc more → passes start ≡ true
    → first_start passes left start ≡ all → all ≡ Some start
unfolding first_start
start_found passes left more start all e is so_far = sym (rw (e, is) at so_far)

pub start_ends : (passes : ℕ → Bool) (left start : ℕ) (all : Option ℕ) → left ≡ 0 → first_start passes left start ≡ all
    → all ≡ None
unfolding first_start
start_ends passes left start all e so_far = sym (rw e at so_far)
