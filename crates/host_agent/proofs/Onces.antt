-- Members that stand once.
use Rattle.std.proofs.Common.{◌≡◌, ◌∙◌, ℕ, zero, suc, ◌⊎◌, inl, inr, Bool, true, false, ◌||◌, cond, List, [], ◌∷◌, ◌++◌, map, slice_get, Option, Some, fold, append_assoc, append-nil, refl, sym, ap, subst}
use Rattle.std.specs.List.{flat_map, list_any}
use Rattle.wire_core.specs.declared.address.Ip4.{Ip4}
use Rattle.wire_core.specs.Members.{In}
use Rattle.wire_core.specs.Same.{same_ip}
use Rattle.wire_core.proofs.SameLaws.{ip_is}
use Rattle.vip_config.specs.Rules.{Once}
use Rattle.config_text.specs.declared.agents.Attach.{Attach}
use Rattle.host_agent.specs.Hosts.{with_address}

in_left : {X : Type 0} (x : X) (xs ys : List X) → In x xs → In x (xs ++ ys)
in_left x [] ys i = absurd i
in_left x (z ∷ xs) ys (inl e) = inl e
in_left x (z ∷ xs) ys (inr i) = inr (in_left x xs ys i)

in_right : {X : Type 0} (x : X) (xs ys : List X) → In x ys → In x (xs ++ ys)
in_right x [] ys i = i
in_right x (z ∷ xs) ys i = inr (in_right x xs ys i)

once_left : {X : Type 0} (xs ys : List X) → Once (xs ++ ys) → Once xs
once_left [] ys o = tt
once_left (x ∷ xs) ys o = ((λ i. o.0 (in_left x xs ys i)), once_left xs ys o.1)

once_right : {X : Type 0} (xs ys : List X) → Once (xs ++ ys) → Once ys
once_right [] ys o = o
once_right (x ∷ xs) ys o = once_right xs ys o.1

-- each part of lists that are laid one behind the other
pub once_part : {A X : Type 0} (f : A → List X) (parts : List A) (i : ℕ) (a : A)
    → slice_get parts i ≡ Some a → Once (flat_map f parts) → Once (f a)
once_part {A = A} f [] i a e o = absurd (cc)
once_part {A = A} f (b ∷ parts) zero a e o = subst (λ z. Once (f z)) (same b a e) (once_left (f b) (flat_map f parts) o)
  where
    same : (x y : A) → Some x ≡ Some y → x ≡ y
    same x y e = cc
once_part {A = A} f (b ∷ parts) (suc i) a e o = once_part f parts i a e (once_right (f b) (flat_map f parts) o)

-- the one between
pub once_apart : {X : Type 0} (xs ys : List X) (x : X) → Once (xs ++ x ∷ ys) → ¬ (In x xs)
once_apart [] ys x o i = i
once_apart (z ∷ xs) ys x o (inl e) = o.0 (in_right z xs (x ∷ ys) (inl (sym e)))
once_apart (z ∷ xs) ys x o (inr i) = once_apart xs ys x o.1 i

-- no address among them is this one
pub none_same : (a : Ip4) (xs : List Ip4) → ¬ (In a xs) → list_any (λ x. same_ip a x) xs ≡ false
none_same a [] apart = refl
none_same a (x ∷ xs) apart = by (same_ip a x) refl (none_same a xs (λ i. apart (inr i)))
  where
    by : (b : Bool) → same_ip a x ≡ b → list_any (λ y. same_ip a y) xs ≡ false → b || list_any (λ y. same_ip a y) xs ≡ false
    by true e rest = absurd (apart (inl (sym (ip_is a x e))))
    by false e rest = rest

-- addresses that stand once go each behind the others
pub indexed : (ks : List Ip4) (ms : List Attach) → Once (ks ++ map (λ (m : Attach). m.address) ms)
    → fold with_address ks ms ≡ ks ++ map (λ (m : Attach). m.address) ms
indexed ks [] once = sym (append-nil ks)
indexed ks (m ∷ ms) once =
    let last : with_address ks m ≡ ks ++ m.address ∷ [] =
    ap (λ (b : Bool). cond b ks (ks ++ m.address ∷ []))
    (none_same m.address ks (once_apart ks (map (λ (x : Attach). x.address) ms) m.address once)) in
    let laid : (ks ++ m.address ∷ []) ++ map (λ (x : Attach). x.address) ms
    ≡ ks ++ m.address ∷ map (λ (x : Attach). x.address) ms =
    append_assoc ks (m.address ∷ []) (map (λ (x : Attach). x.address) ms) in
    ap (λ zs. fold with_address zs ms) last
    ∙ indexed (ks ++ m.address ∷ []) ms (subst (λ zs. Once zs) (sym laid) once)
    ∙ laid
