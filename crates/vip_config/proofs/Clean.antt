-- Claims that are clean break no rule.
use Rattle.std.proofs.Common.{◌≡◌, inl, inr, ℕ, suc, ◌≤◌, Bool, true, false, List, []}
use Rattle.std.proofs.Common.{◌∷◌, ◌++◌, map, None, refl, ap, sym, ◌∙◌, subst, arith, true≢false}
use Rattle.std.specs.List.{flat_map, list_any}
use Rattle.std.proofs.lemmas.Grind.{flat_map-append}
use Rattle.wire_core.specs.Members.{In, Each}
use Rattle.config_text.specs.declared.vips.VipText.{VipText}
use Rattle.vip_config.specs.Claims.{Claim, claims_of, first_broken}
use Rattle.vip_config.specs.Configs.{vip_conf_of}
use Rattle.vip_config.specs.Rules.{Once}
use Rattle.vip_config.specs.declared.parts.VipConf.{VipConf}
use Rattle.vip_config.proofs.Laws.{Clean, each_on, keys}
use Rattle.vip_config.proofs.Members.{each_append, each_left, each_right, in_cases, in_left, in_right}
use Rattle.vip_config.proofs.Members.{once_join}

-- ---- claims that are clean break no rule

module _ {K : Type 0} (same : K → K → Bool) (is_same : (a b : K) → same a b ≡ true → a ≡ b) where
  pub any_member : (k : K) (xs : List K) → list_any (same k) xs ≡ true → In k xs
  any_member k [] h = absurd (true≢false (sym h))
  any_member k (x ∷ xs) h = by (same k x) refl (any_member k xs)
    where
      by : (b : Bool) → same k x ≡ b → (list_any (same k) xs ≡ true → In k xs) → In k (x ∷ xs)
      by true is rest = inl (sym (is_same k x is))
      by false is rest = inr (rest (rw is at h))

  pub no_member : (k : K) (xs : List K) → (In k xs → ⊥) → list_any (same k) xs ≡ false
  no_member k xs none = by (list_any (same k) xs) refl
    where
      by : (b : Bool) → list_any (same k) xs ≡ b → list_any (same k) xs ≡ false
      by true is = absurd (none (any_member k xs is))
      by false is = is

  unbroken : {V : Type 0} (before : List K) (cs : List (Claim K V)) → Clean before cs
      → first_broken same before cs ≡ None
  unbroken before [] clean = refl
  unbroken before (c ∷ cs) clean =
      let new = no_member c.key before (λ i. clean.apart c.key i (inl refl)) in
      let later : Clean (before ++ c.key ∷ []) cs = record {
        once = clean.once.1;
        apart = λ k i j.
            elim (in_cases before (c.key ∷ []) k i) [
              | inl was ↦ clean.apart k was (inr j)
              | inr here ↦ elim here [
                | inl is ↦ clean.once.0
                    (subst (λ x. In x (keys cs)) (sym is) j)
                | inr none ↦ none
              ]
            ];
        fit = clean.fit.1;
      } in
      rw (clean.fit.0, new) (unbroken (before ++ c.key ∷ []) cs later)

  pub none_broken : {V : Type 0} (cs : List (Claim K V)) → Once (keys cs) → Each (λ c. c.fits ≡ true) cs
      → first_broken same [] cs ≡ None
  none_broken cs once fit = unbroken [] cs (record { once = once; apart = λ k i j. i; fit = fit })

-- ---- what each member's claims have, all claims have

pub claims_each : {A B : Type 0} (P : B → Type 0) (H : A → Type 0) (f : ℕ → A → List B)
    → ((i : ℕ) (x : A) → H x → Each P (f i x))
    → (i : ℕ) (xs : List A) → Each H xs → Each P (claims_of f i xs)
claims_each P H f each i [] h = tt
claims_each P H f each i (x ∷ xs) h =
    each_append P (f i x) (claims_of f (suc i) xs) (each i x h.0) (claims_each P H f each (suc i) xs h.1)

pub claims_all : {A B : Type 0} (P : B → Type 0) (f : ℕ → A → List B) → ((i : ℕ) (x : A) → Each P (f i x))
    → (i : ℕ) (xs : List A) → Each P (claims_of f i xs)
claims_all P f each i [] = tt
claims_all P f each i (x ∷ xs) =
    each_append P (f i x) (claims_of f (suc i) xs) (each i x) (claims_all P f each (suc i) xs)

each_at : {X : Type 0} (P : X → Type 0) (xs : List X) (x : X) → In x xs → Each P xs → P x
each_at P [] x i h = absurd i
each_at P (z ∷ xs) x i h = elim i [ inl is ↦ subst P is h.0 | inr j ↦ each_at P xs x j h.1 ]

pub each_parts : {A Y : Type 0} (P : Y → Type 0) (g : A → List Y) (xs : List A) → Each P (flat_map g xs)
    → Each (λ x. Each P (g x)) xs
each_parts P g [] h = tt
each_parts P g (x ∷ xs) h =
    (each_left P (g x) (flat_map g xs) h, each_parts P g xs (each_right P (g x) (flat_map g xs) h))

pub each_text : (P : VipConf → Type 0) (xs : List VipText) → Each P (map vip_conf_of xs)
    → Each (λ vip. P (vip_conf_of vip)) xs
each_text P [] h = tt
each_text P (x ∷ xs) h = (h.0, each_text P xs h.1)

pub each_unmap : {A Y : Type 0} (P : Y → Type 0) (f : A → Y) (xs : List A) → Each P (map f xs) → Each (λ x. P (f x)) xs
each_unmap P f [] h = tt
each_unmap P f (x ∷ xs) h = (h.0, each_unmap P f xs h.1)

-- ---- what claims of one kind name

module _ {A Y Z : Type 0} (g : Y → List Z) (f : ℕ → A → List Y) where
  pub named_each : (P : Z → Type 0) → ((i : ℕ) (x : A) → Each P (flat_map g (f i x))) → (i : ℕ) (xs : List A)
      → Each P (flat_map g (claims_of f i xs))
  named_each P each i [] = tt
  named_each P each i (x ∷ xs) =
      subst (Each P) (sym (flat_map-append g (f i x) (claims_of f (suc i) xs)))
      (each_append P (flat_map g (f i x)) (flat_map g (claims_of f (suc i) xs)) (each i x)
      (named_each P each (suc i) xs))

  pub named_all : (k : A → List Z) → ((i : ℕ) (x : A) → flat_map g (f i x) ≡ k x) → (i : ℕ) (xs : List A)
      → flat_map g (claims_of f i xs) ≡ flat_map k xs
  named_all k each i [] = refl
  named_all k each i (x ∷ xs) =
      flat_map-append g (f i x) (claims_of f (suc i) xs) ∙ (λ t. each i x t ++ named_all k each (suc i) xs t)

  -- where each member's claims name the member's number, those of two members are apart
  module _ (number : Z → ℕ) (numbered : (i : ℕ) (x : A) → Each (λ z. number z ≡ i) (flat_map g (f i x))) where
    later_numbers : (i : ℕ) (xs : List A) → Each (λ z. i ≤ number z) (flat_map g (claims_of f i xs))
    later_numbers i [] = tt
    later_numbers i (x ∷ xs) =
        subst (Each (λ z. i ≤ number z)) (sym (flat_map-append g (f i x) (claims_of f (suc i) xs)))
        (each_append (λ z. i ≤ number z) (flat_map g (f i x)) (flat_map g (claims_of f (suc i) xs))
        (each_on (λ z. number z ≡ i) (λ z. i ≤ number z) (λ z is. omega (arith, is)) (flat_map g (f i x))
        (numbered i x))
        (each_on (λ z. suc i ≤ number z) (λ z. i ≤ number z) (λ z above. omega (arith, above))
        (flat_map g (claims_of f (suc i) xs)) (later_numbers (suc i) xs)))

    pub once_numbered : (H : A → Type 0) → ((i : ℕ) (x : A) → H x → Once (flat_map g (f i x))) → (i : ℕ) (xs : List A)
        → Each H xs → Once (flat_map g (claims_of f i xs))
    once_numbered H once i [] h = tt
    once_numbered H once i (x ∷ xs) h =
        subst Once (sym (flat_map-append g (f i x) (claims_of f (suc i) xs)))
        (once_join (flat_map g (f i x)) (flat_map g (claims_of f (suc i) xs)) (once i x h.0)
        (once_numbered H once (suc i) xs h.1)
        (λ z here there.
        let is : number z ≡ i = each_at (λ z. number z ≡ i) (flat_map g (f i x)) z here (numbered i x) in
        let above : suc i ≤ number z = each_at (λ z. suc i ≤ number z) (flat_map g (claims_of f (suc i) xs)) z there
        (later_numbers (suc i) xs) in
        omega (arith, is, above)))

pub flat_keys : {K V Z : Type 0} (g : K → List Z) (cs : List (Claim K V))
    → flat_map g (keys cs) ≡ flat_map (λ c. g c.key) cs
flat_keys g [] = refl
flat_keys g (c ∷ cs) = ap (λ l. g c.key ++ l) (flat_keys g cs)

pub in_flat : {X Y : Type 0} (g : X → List Y) (xs : List X) (x : X) (y : Y) → In x xs → In y (g x)
    → In y (flat_map g xs)
in_flat g [] x y i j = absurd i
in_flat g (z ∷ xs) x y i j =
    elim i [
      | inl is ↦ in_left (g z) (flat_map g xs) y (subst (λ w. In y (g w)) (sym is) j)
      | inr later ↦ in_right (g z) (flat_map g xs) y (in_flat g xs x y later j)
    ]

abbrev pub nothing : {A Y : Type 0} → A → List Y
nothing x = []

pub flat_none : {A Y : Type 0} (xs : List A) → flat_map (nothing {A = A} {Y = Y}) xs ≡ []
flat_none [] = refl
flat_none (x ∷ xs) = flat_none xs

module _ {A Y Z : Type 0} (f : A → Y) (h : A → Z) (undo : Y → Z) (is : (x : A) → undo (f x) ≡ h x) where
  in_mapped : (y : Y) (xs : List A) → In y (map f xs) → In (undo y) (map h xs)
  in_mapped y [] i = i
  in_mapped y (x ∷ xs) i = elim i [ inl here ↦ inl (sym (is x) ∙ ap undo here) | inr j ↦ inr (in_mapped y xs j) ]

  pub once_mapped : (xs : List A) → Once (map h xs) → Once (map f xs)
  once_mapped [] once = tt
  once_mapped (x ∷ xs) once =
      (λ i. once.0 (subst (λ z. In z (map h xs)) (is x) (in_mapped (f x) xs i)), once_mapped xs once.1)
