-- A line with one field too many, and effects printed one after the other.
use Rattle.std.proofs.Common.{◌≡◌, ℕ, zero, suc, ◌+◌, ◌<◌, List, [], ◌∷◌, ◌++◌, length, take, get_or, None, refl, sym, append_assoc, append-nil, arith}
use Rattle.std.specs.List.{flat_map}
use Rattle.std.proofs.lemmas.List.Concat.{flat_map-cons}
use Rattle.address_text.specs.Fields.{parts}
use Rattle.address_text.proofs.Parts.{parts_some}
use Rattle.plain_schedule.specs.Lines.{one_of}

pub one_more : (s : ℕ) (a rest : List ℕ) → one_of (a ∷ parts s rest) ≡ None
one_more s a rest = let m = parts_some s rest in rw m.2 refl

-- the texts of one more
pub texts_more : {X : Type 0} (text : X → List ℕ) (xs : List X) (i : ℕ) (d : X) → i < length xs
    → flat_map text (take (i + 1) xs) ≡ flat_map text (take i xs) ++ text (get_or xs i d)
texts_more text [] i d lt = absurd (omega arith)
texts_more text (x ∷ xs) zero d lt = rw flat_map-cons (append-nil (text x))
texts_more text (x ∷ xs) (suc i) d lt =
    let k : suc i + 1 ≡ suc (i + 1) = omega arith in
    rw (k, flat_map-cons, flat_map-cons, texts_more text xs i d (omega arith))
    (sym (append_assoc (text x) (flat_map text (take i xs)) (text (get_or xs i d))))
