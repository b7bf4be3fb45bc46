-- Lists that a loop makes of a list, element by element.
use Rattle.std.proofs.Common.{◌≡◌, ℕ, ◌+◌, ◌<◌, List, [], ◌∷◌, ◌++◌, map, length, take, get_or, ap, sym, ◌∙◌}
use Rattle.std.specs.List.{flat_map}
use Rattle.std.proofs.lemmas.List.{take_more, append_assoc, append-nil, map-append}
use Rattle.std.proofs.lemmas.Grind.{flat_map-append}

module _ {A : Type 0} (xs : List A) (i : ℕ) (d : A) (within : i < length xs) where
  pub copied_more : (was now : List A) → now ≡ was ++ get_or xs i d ∷ [] → was ≡ take i xs → now ≡ take (i + 1) xs
  copied_more was now step so_far = step ∙ ap (λ l. l ++ get_or xs i d ∷ []) so_far ∙ sym (take_more xs i d within)

  pub mapped_more : {B : Type 0} (f : A → B) (front was now : List B) → now ≡ was ++ f (get_or xs i d) ∷ []
      → was ≡ front ++ map f (take i xs) → now ≡ front ++ map f (take (i + 1) xs)
  mapped_more f front was now step so_far =
      step ∙ ap (λ l. l ++ f (get_or xs i d) ∷ []) so_far
      ∙ append_assoc front (map f (take i xs)) (f (get_or xs i d) ∷ [])
      ∙ ap (λ l. front ++ l) (sym (ap (map f) (take_more xs i d within)
      ∙ map-append f (take i xs) (get_or xs i d ∷ [])))

  pub joined_more : {B : Type 0} (f : A → List B) (was now : List B) → now ≡ was ++ f (get_or xs i d)
      → was ≡ flat_map f (take i xs) → now ≡ flat_map f (take (i + 1) xs)
  joined_more f was now step so_far =
      step ∙ ap (λ l. l ++ f (get_or xs i d)) so_far
      ∙ sym (ap (flat_map f) (take_more xs i d within) ∙ flat_map-append f (take i xs) (get_or xs i d ∷ [])
      ∙ ap (λ l. flat_map f (take i xs) ++ l) (append-nil (f (get_or xs i d))))
