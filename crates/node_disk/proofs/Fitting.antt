-- What was appended passed no bound.
use Rattle.std.proofs.Common.{◌≡◌, ◌<◌, ◌≤◌, ℕ, Bool, true, false, nat_lt, Result, Ok, Err, refl}
use Rattle.std.specs.Prelude.{OnOk}
use Rattle.std.proofs.lemmas.Bool.{ltb-true, ltb-false}

ok_is_err : {A E : Type 0} (x : A) (e : E) → ◌≡◌ {A = Result A E} (Ok x) (Err e) → ⊥
ok_is_err x e is = absurd (cc)

-- where what passes the bound is refused, what isn't refused passes none
pub fits : {A E S : Type 0} (bound n : ℕ) (r : Result A E) (e : E) → (bound < n → (r ≡ Err e) × S) → OnOk r (n ≤ bound)
fits bound n (Err f) e full = tt
fits {A} {E} {S} bound n (Ok x) e full = by (nat_lt bound n) refl
  where
    by : (b : Bool) → nat_lt bound n ≡ b → n ≤ bound
    by true is = absurd (ok_is_err x e (full (ltb-true bound n is)).0)
    by false is = ltb-false bound n is
