-- One of a list, each of a list, and lists without two equal members.
use Rattle.std.proofs.Common.{◌≡◌, ◌⊎◌, inl, inr, Bool, true, ◌||◌, List, [], ◌∷◌, ◌++◌, refl, ap, sym, ◌∙◌, subst}
use Rattle.std.specs.List.{list_any}
use Rattle.std.proofs.Math.Bool.{or-true}
use Rattle.wire_core.specs.Members.{In, Each}
use Rattle.vip_config.specs.Rules.{Once}

pub each_append : {X : Type 0} (P : X → Type 0) (xs ys : List X) → Each P xs → Each P ys → Each P (xs ++ ys)
each_append P [] ys a b = b
each_append P (x ∷ xs) ys a b = (a.0, each_append P xs ys a.1 b)

pub each_left : {X : Type 0} (P : X → Type 0) (xs ys : List X) → Each P (xs ++ ys) → Each P xs
each_left P [] ys h = tt
each_left P (z ∷ xs) ys h = (h.0, each_left P xs ys h.1)

pub each_right : {X : Type 0} (P : X → Type 0) (xs ys : List X) → Each P (xs ++ ys) → Each P ys
each_right P [] ys h = h
each_right P (z ∷ xs) ys h = each_right P xs ys h.1

pub in_left : {X : Type 0} (xs ys : List X) (x : X) → In x xs → In x (xs ++ ys)
in_left [] ys x i = absurd i
in_left (z ∷ zs) ys x i = elim i [ inl e ↦ inl e | inr j ↦ inr (in_left zs ys x j) ]

pub in_right : {X : Type 0} (xs ys : List X) (x : X) → In x ys → In x (xs ++ ys)
in_right [] ys x i = i
in_right (z ∷ zs) ys x i = inr (in_right zs ys x i)

pub in_cases : {X : Type 0} (xs ys : List X) (x : X) → In x (xs ++ ys) → In x xs ⊎ In x ys
in_cases [] ys x i = inr i
in_cases (z ∷ zs) ys x i =
    elim i [ inl e ↦ inl (inl e) | inr j ↦ elim (in_cases zs ys x j) [ inl k ↦ inl (inr k) | inr k ↦ inr k ] ]

-- a member of a list passes the test of being among them
pub in_any : {K : Type 0} (same : K → K → Bool) → ((k : K) → same k k ≡ true) → (k : K) (ks : List K) → In k ks
    → list_any (same k) ks ≡ true
in_any same own k [] h = absurd h
in_any same own k (x ∷ xs) h =
    elim h [
      | inl is ↦ ap (λ b. b || list_any (same k) xs) (ap (same k) is ∙ own k)
      | inr j ↦ ap (λ b. same k x || b) (in_any same own k xs j) ∙ or-true (same k x)
    ]

pub once_left : {X : Type 0} (xs ys : List X) → Once (xs ++ ys) → Once xs
once_left [] ys h = tt
once_left (x ∷ xs) ys h = (λ i. h.0 (in_left xs ys x i), once_left xs ys h.1)

pub once_right : {X : Type 0} (xs ys : List X) → Once (xs ++ ys) → Once ys
once_right [] ys h = h
once_right (x ∷ xs) ys h = once_right xs ys h.1

pub once_apart : {X : Type 0} (xs ys : List X) (x : X) → Once (xs ++ ys) → In x xs → In x ys → ⊥
once_apart [] ys x h i j = i
once_apart (z ∷ xs) ys x h i j =
    elim i [ inl is ↦ h.0 (in_right xs ys z (subst (λ y. In y ys) (sym is) j)) | inr k ↦ once_apart xs ys x h.1 k j ]

pub once_join : {X : Type 0} (xs ys : List X) → Once xs → Once ys → ((x : X) → In x xs → In x ys → ⊥) → Once (xs ++ ys)
once_join [] ys h k apart = k
once_join (x ∷ xs) ys h k apart = (
  λ i. elim (in_cases xs ys x i) [ inl j ↦ h.0 j | inr j ↦ apart x (inl refl) j ],
  once_join xs ys h.1 k (λ y i j. apart y (inr i) j),
)
