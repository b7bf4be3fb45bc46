-- Where no two members of a list share something, two members that share it are one.
use Rattle.std.proofs.Common.{◌≡◌, inl, inr, sym, ap, subst, ◌∙◌, List, [], ◌∷◌, map}
use Rattle.wire_core.specs.Members.{In}
use Rattle.vip_config.specs.Rules.{Once}
use Rattle.lease_spec.proofs.MemberLaws.{in_map}

module _ {X Y : Type 0} (f : X → Y) where
  -- none behind the first shares with it
  not_behind : (x y : X) (xs : List X) → (In (f x) (map f xs) → ⊥) → In y xs → f x ≡ f y → ⊥
  not_behind x y xs none there same = none (subst (λ (k : Y). In k (map f xs)) (sym same) (in_map f xs y there))

  pub single : (xs : List X) → Once (map f xs) → (x y : X) → In x xs → In y xs → f x ≡ f y → x ≡ y
  single [] once x y i j same = absurd i
  single (z ∷ zs) once x y i j same = elim i [
    | inl a ↦ elim j [
      | inl b ↦ sym a ∙ b
      | inr l ↦ absurd (not_behind z y zs once.0 l (ap f a ∙ same))
    ]
    | inr k ↦ elim j [
      | inl b ↦ absurd (not_behind z x zs once.0 k (ap f b ∙ sym same))
      | inr l ↦ single zs once.1 x y k l same
    ]
  ]
