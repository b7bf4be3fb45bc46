-- The five replicas, which of them, and whose a ballot is.
use Rattle.std.specs.Prelude.{ℕ, ◌+◌, ◌*◌, ◌/◌, Bool, true, false, List, [], ◌∷◌, slice_index_or, slice_set}

abbrev pub five : List ℕ
five = 0 ∷ 1 ∷ 2 ∷ 3 ∷ 4 ∷ []

-- five flags: which of them
abbrev pub nobody : List Bool
nobody = false ∷ false ∷ false ∷ false ∷ false ∷ []

abbrev pub has : List Bool → ℕ → Bool
has flags i = slice_index_or flags i false

abbrev pub joined : List Bool → ℕ → List Bool
joined flags i = slice_set flags i true

abbrev pub how_many : List Bool → ℕ
how_many [] = 0
how_many (true ∷ flags) = how_many flags + 1
how_many (false ∷ flags) = how_many flags

-- The least ballot of a replica that is in a later round than `above`. A ballot's owner is its remainder by five.
abbrev pub next_ballot : ℕ → ℕ → ℕ
next_ballot above index = (above / 5 + 1) * 5 + index
