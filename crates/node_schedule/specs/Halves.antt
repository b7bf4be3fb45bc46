-- Where the configuration of a schedule ends, and its lines begin.
use Rattle.std.specs.Prelude.{ℕ, ◌+◌, Bool, List, [], ◌∷◌, length, take, drop, Option, Some, None, if◌then◌else◌, codes}
use Rattle.std.specs.Str.{bytes_eq}
use Rattle.address_text.specs.Fields.{parts}

-- the line between a configuration and its schedule
abbrev pub is_dashes : List ℕ → Bool
is_dashes line = bytes_eq line (codes "---")

-- where the first line `---` begins, where the first of these lines begins at n
unfoldable pub dashes_from : ℕ → List (List ℕ) → Option ℕ
dashes_from n [] = None
dashes_from n (line ∷ lines) =
    if is_dashes line then Some n else dashes_from (n + (length line + 1)) lines

-- where the first line `---` of a text begins
abbrev pub dashes_at : List ℕ → Option ℕ
dashes_at text = dashes_from 0 (parts 10 text)

abbrev pub halves_at : List ℕ → Option ℕ → List ℕ × Option (List ℕ)
halves_at text None = (text, None)
halves_at text (Some n) = (take n text, Some (drop (n + 4) text))

-- The text before the first line `---`, and the text behind that line. Where there is no such line, the whole text.
abbrev pub halves : List ℕ → List ℕ × Option (List ℕ)
halves text = halves_at text (dashes_at text)
