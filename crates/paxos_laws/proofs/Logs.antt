-- Lists that agree where both have an element begin one list.
use Rattle.std.proofs.Common.{◌≡◌, ℕ, zero, suc, ◌+◌, ◌-◌, ◌<◌, ◌≤◌, ◌⊎◌, inl, inr, List, [], ◌∷◌, ◌++◌, map, take, drop, length, get_or, refl, sym, ap, ◌∙◌, arith, subst, get_or-drop, get_or-append-add, get_or-take, length-take-le, length-append, length-drop, ext_get_or}
use Rattle.std.proofs.lemmas.List.{get_or_append_left, length-map}
use Rattle.std.proofs.lemmas.Option.{slice_get-get_or}
use Rattle.paxos_spec.specs.declared.cast.Cast.{Cast}
use Rattle.paxos_spec.specs.Votes.{Value, no_vote}
use Rattle.paxos_spec.specs.Five.{five}
use Rattle.paxos_spec.specs.Acceptor.{reach}
use Rattle.paxos_spec.specs.Agreement.{View, values_of, first_of, IsBeginning}
use Rattle.paxos_laws.specs.Facts.{Inv}
use Rattle.paxos_laws.proofs.Claims.{logs_of}

-- they have the same value where both have one
abbrev pub Alike : List Value → List Value → Type 0
Alike l m = (k : ℕ) → k < length l → k < length m → get_or l k [] ≡ get_or m k []

abbrev pub AllAlike : List Value → List (List Value) → Type 0
AllAlike l [] = Unit {0}
AllAlike l (m ∷ ms) = Alike l m × AllAlike l ms

abbrev pub EachAlike : List (List Value) → Type 0
EachAlike [] = Unit {0}
EachAlike (l ∷ ls) = AllAlike l ls × EachAlike ls

abbrev pub IsOf : List (List Value) → List Value → Type 0
IsOf [] l = ⊥
IsOf (m ∷ ms) l = (m ≡ l) ⊎ IsOf ms l

alike_of : (l : List Value) (ms : List (List Value)) (m : List Value) → AllAlike l ms → IsOf ms m → Alike l m
alike_of l [] m h at = absurd at
alike_of l (x ∷ ms) m h (inl e) = subst (Alike l) e h.0
alike_of l (x ∷ ms) m h (inr at) = alike_of l ms m h.1 at

pub low_or : (a b : ℕ) → (a < b) ⊎ (b ≤ a)
low_or a b = grind arith

pub at_first : (ls : List (List Value)) (l : List Value) (k : ℕ) → EachAlike ls → IsOf ls l → k < length l
    → (k < length (first_of ls)) × (get_or (first_of ls) k [] ≡ get_or l k [])
at_first [] l k h at lt = absurd at
at_first (m ∷ ls) l k h (inl e) lt =
    subst (λ (x : List Value). (k < length (m ++ drop (length m) (first_of ls))) ×
    (get_or (m ++ drop (length m) (first_of ls)) k [] ≡ get_or x k [])) e
    (let in_m : k < length m = rw e lt in
    (omega (arith, length-append m (drop (length m) (first_of ls))), get_or_append_left m _ [] k in_m))
at_first (m ∷ ls) l k h (inr at) lt =
    let old : (k < length (first_of ls)) × (get_or (first_of ls) k [] ≡ get_or l k []) = at_first ls l k h.1 at lt in
    elim (low_or k (length m)) [
      | inl low ↦ (
        omega (arith, length-append m (drop (length m) (first_of ls))),
        get_or_append_left m _ [] k low
            ∙ alike_of m ls l h.0 at k low lt,
      )
      | inr high ↦ (let j : ℕ = k - length m in let is : length m + j ≡ k = omega arith in
          let lk : k < length (first_of ls) = old.0 in (
            omega (arith, length-append m (drop (length m) (first_of ls)), length-drop (length m) (first_of ls)),
            subst (λ (n : ℕ). get_or (m ++ drop (length m) (first_of ls)) n [] ≡ get_or l k []) is
                (get_or-append-add m (drop (length m) (first_of ls)) j [] ∙ get_or-drop (length m) (first_of ls) j []
                ∙ ap (λ (n : ℕ). get_or (first_of ls) n []) is ∙ old.1),
          ))
    ]

begins : (ls : List (List Value)) (l : List Value) → EachAlike ls → IsOf ls l → l ≡ take (length l) (first_of ls)
begins ls l h at =
    let long : length l ≤ length (first_of ls) =
    longest (length l) (length (first_of ls)) (λ k lt. (at_first ls l k h at lt).0) in
    ext_get_or [] l (take (length l) (first_of ls)) (sym (length-take-le (length l) (first_of ls) long))
    (λ k lt. sym (get_or-take (length l) (first_of ls) k [] lt ∙ (at_first ls l k h at lt).1))
  where
    longest : (a b : ℕ) → ((k : ℕ) → k < a → k < b) → a ≤ b
    longest zero b h = omega arith
    longest (suc a) b h = h a (omega arith)

pub value_at : (xs : List Cast) (k : ℕ) → get_or (map (λ (x : Cast). x.value) xs) k [] ≡ (get_or xs k no_vote).value
value_at [] k = refl
value_at (x ∷ xs) zero = refl
value_at (x ∷ xs) (suc k) = value_at xs k

pub values_alike : (w : View) → Inv w → (i j : ℕ) → i < 5 → j < 5 → Alike (values_of (w.disk i)) (values_of (w.disk j))
values_alike w inv i j i5 j5 k li lj =
    let xs : List Cast = (w.disk i).state.log in let ys : List Cast = (w.disk j).state.log in
    let mi : k < length xs = rw length-map at li in
    let mj : k < length ys = rw length-map at lj in
    value_at xs k
    ∙ logs_of w inv i j k (get_or xs k no_vote) (get_or ys k no_vote) i5 j5 (slice_get-get_or xs k no_vote mi)
    (slice_get-get_or ys k no_vote mj) ∙ sym (value_at ys k)

pub is_of : (f : ℕ → List Value) (i : ℕ) → i < 5 → IsOf (map f five) (f i)
is_of f zero lt = inl refl
is_of f (suc zero) lt = inr (inl refl)
is_of f (suc (suc zero)) lt = inr (inr (inl refl))
is_of f (suc (suc (suc zero))) lt = inr (inr (inr (inl refl)))
is_of f (suc (suc (suc (suc zero)))) lt = inr (inr (inr (inr (inl refl))))
is_of f (suc (suc (suc (suc (suc i))))) lt = absurd (omega arith)

pub all_alike : (f : ℕ → List Value) → ((i j : ℕ) → i < 5 → j < 5 → Alike (f i) (f j)) → EachAlike (map f five)
all_alike f h =
    let l0 : 0 < 5 = omega arith in let l1 : 1 < 5 = omega arith in let l2 : 2 < 5 = omega arith in
    let l3 : 3 < 5 = omega arith in let l4 : 4 < 5 = omega arith in (
      (h 0 1 l0 l1, (h 0 2 l0 l2, (h 0 3 l0 l3, (h 0 4 l0 l4, tt)))),
      (
        (h 1 2 l1 l2, (h 1 3 l1 l3, (h 1 4 l1 l4, tt))),
        ((h 2 3 l2 l3, (h 2 4 l2 l4, tt)), ((h 3 4 l3 l4, tt), (tt, tt))),
      ),
    )

pub beginning_of : (w : View) → Inv w → IsBeginning w
beginning_of w inv i i5 =
    let f : ℕ → List Value = λ i. values_of (w.disk i) in
    let len : length (values_of (w.disk i)) ≡ reach (w.disk i).state = length-map _ _ in
    rw (← len) (begins (map f five) (f i) (all_alike f (values_alike w inv)) (is_of f i i5))
