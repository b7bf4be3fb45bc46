-- The first free port of a lease, and over leases.
use Rattle.std.proofs.Common.{◌≡◌, ◌∙◌, ℕ, zero, suc, ◌+◌, ◌<◌, Bool, true, false, List, ◌∷◌, drop, map, find, not, Option, Some, None, refl, sym, ap, arith}
use Rattle.std.specs.Prelude.{is_some, is_none}
use Rattle.std.specs.List.{flat_map}
use Rattle.std.proofs.lemmas.List.Concat.{flat_map-cons}
use Rattle.std.proofs.lemmas.List.Folds.{find-append}
use Rattle.plain_schedule.specs.Packets.{places}

next_place : (i : ℕ) → i < 8 → drop i places ≡ i ∷ drop (i + 1) places
next_place zero lt = refl
next_place (suc zero) lt = refl
next_place (suc (suc zero)) lt = refl
next_place (suc (suc (suc zero))) lt = refl
next_place (suc (suc (suc (suc zero)))) lt = refl
next_place (suc (suc (suc (suc (suc zero))))) lt = refl
next_place (suc (suc (suc (suc (suc (suc zero)))))) lt = refl
next_place (suc (suc (suc (suc (suc (suc (suc zero))))))) lt = refl
next_place (suc (suc (suc (suc (suc (suc (suc (suc i)))))))) lt = absurd (omega arith)

pub first_place : {X : Type 0} (p : X → Bool) (f : ℕ → X) (i : ℕ) → i < 8 → p (f i) ≡ true
    → find p (map f (drop i places)) ≡ Some (f i)
first_place p f i lt is = rw (next_place i lt, is) refl

pub later_place : {X : Type 0} (p : X → Bool) (f : ℕ → X) (i : ℕ) → i < 8 → p (f i) ≡ false
    → find p (map f (drop i places)) ≡ find p (map f (drop (i + 1) places))
later_place p f i lt is = rw (next_place i lt, is) refl

pub found_here : {X Y : Type 0} (p : X → Bool) (f : Y → List X) (y : Y) (ys : List Y) (x : X) → find p (f y) ≡ Some x
    → find p (flat_map f (y ∷ ys)) ≡ Some x
found_here p f y ys x is = rw (flat_map-cons f y ys, find-append p (f y) (flat_map f ys), is) refl

pub found_later : {X Y : Type 0} (p : X → Bool) (f : Y → List X) (y : Y) (ys : List Y) → find p (f y) ≡ None
    → find p (flat_map f (y ∷ ys)) ≡ find p (flat_map f ys)
found_later p f y ys is = rw (flat_map-cons f y ys, find-append p (f y) (flat_map f ys), is) refl

pub free_is : {X : Type 0} (r wanted : Option X) (b : Bool) → r ≡ wanted → is_some r ≡ not b → is_none wanted ≡ b
free_is r wanted true e s = ap is_none (sym e) ∙ ap not s
free_is r wanted false e s = ap is_none (sym e) ∙ ap not s

pub none_left : {X : Type 0} (o : Option X) → false ≡ is_some o → o ≡ None
none_left None e = refl
none_left (Some x) e = absurd (cc)
