-- Bytes as they are written in a run: two hexadecimal digits each, in lower case.
use Rattle.std.specs.Prelude.{ℕ, ◌+◌, ◌-◌, ◌*◌, nat_le, List, [], ◌∷◌, if◌then◌else◌}

-- the value of a digit, by its code
abbrev pub digit : ℕ → ℕ
digit c = if nat_le 97 c then c - 87 else c - 48

-- the bytes that these digits spell
abbrev pub hex : List ℕ → List ℕ
hex [] = []
hex (a ∷ []) = []
hex (a ∷ b ∷ cs) = (digit a * 16 + digit b) ∷ hex cs
