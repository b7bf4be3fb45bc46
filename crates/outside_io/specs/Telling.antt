-- What an object tells of its past, where it is known, is a list in order.
use Rattle.std.specs.Prelude.{◌≡◌, List, [], ◌∷◌, ◌++◌, Option, None, Some}

-- One more is told. What isn't known stays so, and what was known may be known no longer.
abbrev pub Tells : {A : Type 0} → Option (List A) → Option (List A) → A → Type 0
Tells None new x = new ≡ None
Tells (Some xs) None x = Unit {0}
Tells (Some xs) (Some ys) x = ys ≡ xs ++ x ∷ []

-- nothing has happened yet
abbrev pub TellsNone : {A : Type 0} → Option (List A) → Type 0
TellsNone None = Unit {0}
TellsNone (Some xs) = xs ≡ []
