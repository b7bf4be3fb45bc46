-- Each of a list, one of it, and the first that passes.
use Rattle.std.proofs.Common.{◌≡◌, ◌⊎◌, inl, inr, Bool, true, false, List, [], ◌∷◌, ◌++◌, map, filter, Some, refl}
use Rattle.std.proofs.Common.{subst, ap}
use Rattle.std.specs.Prelude.{cond, find, if◌then◌else◌}
use Rattle.wire_core.specs.Members.{In, Each}

pub each_append : {X : Type 0} (P : X → Type 0) (xs ys : List X) → Each P xs → Each P ys → Each P (xs ++ ys)
each_append P [] ys a b = b
each_append P (x ∷ xs) ys a b = (a.0, each_append P xs ys a.1 b)

pub each_on : {X : Type 0} (P Q : X → Type 0) → ((x : X) → P x → Q x) → (xs : List X) → Each P xs → Each Q xs
each_on P Q f [] a = tt
each_on P Q f (x ∷ xs) a = (f x a.0, each_on P Q f xs a.1)

pub each_in : {X : Type 0} (P : X → Type 0) (xs : List X) (x : X) → Each P xs → In x xs → P x
each_in P [] x a i = absurd i
each_in P (y ∷ ys) x a i = elim i [ inl e ↦ subst P e a.0 | inr j ↦ each_in P ys x a.1 j ]

pub each_from : {X : Type 0} (P : X → Type 0) (xs : List X) → ((x : X) → In x xs → P x) → Each P xs
each_from P [] f = tt
each_from P (x ∷ xs) f = (f x (inl refl), each_from P xs (λ y i. f y (inr i)))

-- each that passes, where what passes has it
pub each_passing : {X : Type 0} (P : X → Type 0) (p : X → Bool) (xs : List X) → ((x : X) → In x xs → p x ≡ true → P x)
    → Each P (filter p xs)
each_passing P p [] f = tt
each_passing P p (x ∷ xs) f = by (p x) refl (each_passing P p xs (λ y i e. f y (inr i) e))
  where
    by : (b : Bool) → p x ≡ b → Each P (filter p xs) → Each P (cond b (x ∷ filter p xs) (filter p xs))
    by true is rest = (f x (inl refl) is, rest)
    by false is rest = rest

pub each_map : {X Y : Type 0} (P : Y → Type 0) (f : X → Y) (xs : List X) → Each (λ x. P (f x)) xs → Each P (map f xs)
each_map P f [] a = tt
each_map P f (x ∷ xs) a = (a.0, each_map P f xs a.1)

pub each_left : {X : Type 0} (P : X → Type 0) (xs ys : List X) → Each P (xs ++ ys) → Each P xs
each_left P [] ys h = tt
each_left P (z ∷ xs) ys h = (h.0, each_left P xs ys h.1)

pub in_left : {X : Type 0} (xs ys : List X) (x : X) → In x xs → In x (xs ++ ys)
in_left [] ys x i = absurd i
in_left (z ∷ zs) ys x i = elim i [ inl e ↦ inl e | inr j ↦ inr (in_left zs ys x j) ]

pub in_right : {X : Type 0} (xs ys : List X) (x : X) → In x ys → In x (xs ++ ys)
in_right [] ys x i = i
in_right (z ∷ zs) ys x i = inr (in_right zs ys x i)

pub in_cases : {X : Type 0} (xs ys : List X) (x : X) → In x (xs ++ ys) → In x xs ⊎ In x ys
in_cases [] ys x i = inr i
in_cases (z ∷ zs) ys x i =
    elim i [ inl e ↦ inl (inl e) | inr j ↦ elim (in_cases zs ys x j) [ inl k ↦ inl (inr k) | inr k ↦ inr k ] ]

pub in_map : {X Y : Type 0} (f : X → Y) (xs : List X) (x : X) → In x xs → In (f x) (map f xs)
in_map f [] x i = absurd i
in_map f (y ∷ ys) x i = elim i [ inl e ↦ inl (ap f e) | inr j ↦ inr (in_map f ys x j) ]

pub in_filter : {X : Type 0} (p : X → Bool) (xs : List X) (x : X) → In x xs → p x ≡ true → In x (filter p xs)
in_filter p [] x i t = absurd i
in_filter p (y ∷ ys) x i t = by (p y) refl i (λ j. in_filter p ys x j t)
  where
    by : (b : Bool) → p y ≡ b → In x (y ∷ ys) → (In x ys → In x (filter p ys))
        → In x (cond b (y ∷ filter p ys) (filter p ys))
    by true is i rest = elim i [ inl e ↦ inl e | inr j ↦ inr (rest j) ]
    by false is i rest =
        elim i [ inl e ↦ absurd (let a : p x ≡ false = subst (λ z. p z ≡ false) e is in cc) | inr j ↦ rest j ]

-- both ways of a choice
pub by_if : {X : Type 0} (P : X → Type 0) (b : Bool) {x y : X} → (b ≡ true → P x) → (b ≡ false → P y)
    → P (if b then x else y)
by_if P true f g = f refl
by_if P false f g = g refl

-- what was found passes
pub found_passes : {X : Type 0} (p : X → Bool) (xs : List X) (x : X) → find p xs ≡ Some x → p x ≡ true
found_passes p [] x e = absurd (cc)
found_passes p (y ∷ ys) x e = by (p y) refl e (found_passes p ys x)
  where
    by : (b : Bool) → p y ≡ b → cond b (Some y) (find p ys) ≡ Some x → (find p ys ≡ Some x → p x ≡ true) → p x ≡ true
    by true is e rest = let same : y ≡ x = cc in subst (λ z. p z ≡ true) same is
    by false is e rest = rest e

-- what was found is one of the list
pub found_in : {X : Type 0} (p : X → Bool) (xs : List X) (x : X) → find p xs ≡ Some x → In x xs
found_in p [] x e = absurd (cc)
found_in p (y ∷ ys) x e = by (p y) e (found_in p ys x)
  where
    by : (b : Bool) → cond b (Some y) (find p ys) ≡ Some x → (find p ys ≡ Some x → In x ys) → In x (y ∷ ys)
    by true e rest = inl (cc)
    by false e rest = inr (rest e)
