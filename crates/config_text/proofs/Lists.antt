-- Lists of values, read from the first to the last.
use Rattle.std.proofs.Common.{◌≡◌, suc, List, [], ◌∷◌, ◌++◌, length, Result, Ok, Err, refl, sym, ap, append_assoc}
use Rattle.serde_json.specs.Events.{items_len}
use Rattle.serde_json.specs.View.{items_view}
use Rattle.serde_json.specs.declared.value.Value.{Value}
use Rattle.config_text.specs.Faults.{Fault, ◌>>=◌}

pub values_counted : (vs : List Value) → items_len (items_view vs) ≡ length vs
values_counted [] = refl
values_counted (v ∷ vs) = ap suc (values_counted vs)

-- what is read, behind what was read before
abbrev pub onto : {A : Type 0} → List A → Result (List A) Fault → Result (List A) Fault
onto front read = read >>= λ xs. Ok (front ++ xs)

more : {A : Type 0} (front : List A) (x : A) (rest : Result (List A) Fault)
    → onto front (rest >>= λ xs. Ok (x ∷ xs)) ≡ onto (front ++ x ∷ []) rest
more front x (Ok xs) = ap Ok (sym (append_assoc front (x ∷ []) xs))
more front x (Err e) = refl
