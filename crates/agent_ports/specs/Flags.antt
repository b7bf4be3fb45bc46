-- Ranges with flags: those that are given back.
use Rattle.std.specs.Prelude.{Bool, List, [], ◌∷◌, if◌then◌else◌}
use Rattle.agent_spec.specs.declared.held.Held.{Held}

-- the ranges with a flag
abbrev pub flagged : List Bool → List Held → List Held
flagged [] hs = []
flagged (b ∷ bs) [] = []
flagged (b ∷ bs) (h ∷ hs) = if b then h ∷ flagged bs hs else flagged bs hs

-- the ranges without one
abbrev pub unflagged : List Bool → List Held → List Held
unflagged [] hs = []
unflagged (b ∷ bs) [] = []
unflagged (b ∷ bs) (h ∷ hs) = if b then unflagged bs hs else h ∷ unflagged bs hs
