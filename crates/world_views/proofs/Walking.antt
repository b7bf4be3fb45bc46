-- Lists that are read by number, up to the first number that has nothing.
use Rattle.std.proofs.Common.{◌≡◌, ◌⊎◌, inl, inr, ◌<◌, ◌≤◌, ℕ, ◌+◌, List, [], ◌∷◌, ◌++◌, map, length, take, get_or, Option, Some, None, refl, sym, ap, ◌∙◌}
use Rattle.std.specs.Prelude.{slice_get, option_map}
use Rattle.std.specs.List.{flat_map}
use Rattle.std.proofs.lemmas.List.{flat_map_more, map-append, take_all, take_more, append_assoc}
use Rattle.std.proofs.lemmas.Option.{get_or_from_slice_get, none-some, same_Some, slice_get_cases, slice_get_within}
use Rattle.agent_spec.specs.declared.held.Held.{Held as HeldRange}
use Rattle.wire_core.specs.declared.address.Ip4.{Ip4}
use Rattle.wire_core.specs.declared.range.Range.{Range}
use Rattle.world_spec.specs.Views.{held_by}
use Rattle.world_spec.specs.declared.views.Held.{Held}

-- one more
pub front_next : {X : Type 0} (xs : List X) (i : ℕ) (x : X) → slice_get xs i ≡ Some x
    → take (i + 1) xs ≡ take i xs ++ x ∷ []
front_next xs i x is =
    take_more xs i x (slice_get_within xs i x is)
    ∙ ap (λ y. take i xs ++ y ∷ []) (get_or_from_slice_get xs i x x is)

-- no more
pub front_last : {X : Type 0} (xs : List X) (i : ℕ) → slice_get xs i ≡ None → take i xs ≡ xs
front_last {X} xs i none = by ((slice_get_cases xs i).1)
  where
    by : ((x : X) × (i < length xs) × (slice_get xs i ≡ Some x) × (get_or xs i x ≡ x)) ⊎ ((length xs ≤ i) × (slice_get xs i ≡ None))
        → take i xs ≡ xs
    by (inl here) = absurd (none-some here.0 (sym none ∙ here.2))
    by (inr past) = take_all i xs past.0

-- ---- held ranges

-- what is told of a held range
abbrev pub told : HeldRange → ℕ × (Range × Ip4)
told h = (h.n, (h.range, h.machine))

abbrev pub held_as : ℕ × (Range × Ip4) → Held
held_as x = record { range = x.1.0; n = x.0; machine = x.1.1 }

pub held_next : (xs : List HeldRange) (i : ℕ) (x : ℕ × (Range × Ip4)) (old now : List Held)
    → option_map told (slice_get xs i) ≡ Some x → now ≡ old ++ map held_by (take i xs)
    → now ++ held_as x ∷ [] ≡ old ++ map held_by (take (i + 1) xs)
held_next xs i x old now is before = by (slice_get xs i) refl is
  where
    by : (o : Option HeldRange) → slice_get xs i ≡ o → option_map told o ≡ Some x
        → now ++ held_as x ∷ [] ≡ old ++ map held_by (take (i + 1) xs)
    by None here same = absurd (none-some x same)
    by (Some h) here same =
        let front : List Held = map held_by (take i xs) in
        let this : held_by h ≡ held_as x = ap held_as (same_Some (told h) x same) in
        let next : map held_by (take (i + 1) xs) ≡ front ++ held_by h ∷ [] =
        ap (map held_by) (front_next xs i h here) ∙ map-append held_by (take i xs) (h ∷ []) in
        let all : map held_by (take (i + 1) xs) ≡ front ++ held_as x ∷ [] =
        next ∙ ap (λ (z : Held). front ++ z ∷ []) this in
        ap (λ (zs : List Held). zs ++ held_as x ∷ []) before
        ∙ append_assoc old front (held_as x ∷ [])
        ∙ sym (ap (λ (zs : List Held). old ++ zs) all)

pub held_last : (xs : List HeldRange) (i : ℕ) (old now : List Held) → option_map told (slice_get xs i) ≡ None
    → now ≡ old ++ map held_by (take i xs) → now ≡ old ++ map held_by xs
held_last xs i old now is before = by (slice_get xs i) refl is
  where
    by : (o : Option HeldRange) → slice_get xs i ≡ o → option_map told o ≡ None → now ≡ old ++ map held_by xs
    by None here same = before ∙ ap (λ zs. old ++ map held_by zs) (front_last xs i here)
    by (Some h) here same = absurd (none-some (told h) (sym same))

-- ---- connections

pub live_next : {X : Type 0} (xs : List X) (i : ℕ) (x : X) (old now : List X) → slice_get xs i ≡ Some x
    → now ≡ old ++ take i xs → now ++ x ∷ [] ≡ old ++ take (i + 1) xs
live_next xs i x old now is before =
    ap (λ zs. zs ++ x ∷ []) before ∙ append_assoc old (take i xs) (x ∷ [])
    ∙ ap (λ zs. old ++ zs) (sym (front_next xs i x is))

pub live_last : {X : Type 0} (xs : List X) (i : ℕ) (old now : List X) → slice_get xs i ≡ None
    → now ≡ old ++ take i xs → now ≡ old ++ xs
live_last xs i old now is before = before ∙ ap (λ zs. old ++ zs) (front_last xs i is)

-- ---- rows

pub rows_next : {X Y : Type 0} (f : X → List Y) (xs : List X) (i : ℕ) (x : X) (old now new : List Y)
    → slice_get xs i ≡ Some x → new ≡ now ++ f x → now ≡ old ++ flat_map f (take i xs)
    → new ≡ old ++ flat_map f (take (i + 1) xs)
rows_next f xs i x old now new is more before =
    more ∙ ap (λ zs. zs ++ f x) before ∙ flat_map_more f old (take i xs) x
    ∙ ap (λ zs. old ++ flat_map f zs) (sym (front_next xs i x is))

pub rows_last : {X Y : Type 0} (f : X → List Y) (xs : List X) (i : ℕ) (old now : List Y) → slice_get xs i ≡ None
    → now ≡ old ++ flat_map f (take i xs) → now ≡ old ++ flat_map f xs
rows_last f xs i old now is before = before ∙ ap (λ zs. old ++ flat_map f zs) (front_last xs i is)
