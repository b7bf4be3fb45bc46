-- Decimal numbers.
use Rattle.std.specs.Prelude.{ℕ, ◌+◌, ◌*◌, ◌-◌, Bool, not, ◌&&◌, ◌||◌, nat_le, nat_lt, ◌==◌, List, [], ◌∷◌, length}
use Rattle.std.specs.Prelude.{slice_index, Option, Some, None, if◌then◌else◌}
use Rattle.std.specs.Str.{all_ascii_digits}
use Rattle.std.specs.Str.Parse.{digits_value}

-- digits, at least one, the first no zero unless it stands alone
abbrev pub is_numeral : List ℕ → Bool
is_numeral text =
    all_ascii_digits text && not ((length text == 0) || ((slice_index text 0 == 48) && nat_lt 1 (length text)))

-- a numeral's number, where it is within the limit
abbrev pub number_of : ℕ → List ℕ → Option ℕ
number_of limit text =
    if is_numeral text && nat_le (digits_value 10 text) limit then Some (digits_value 10 text) else None

-- the number that goes on with these digits, as long as it stays within the limit
unfoldable pub number_after : ℕ → ℕ → List ℕ → Option ℕ
number_after limit n [] = Some n
number_after limit n (b ∷ bs) =
    if nat_le 48 b && nat_le b 57 && nat_le (10 * n + (b - 48)) limit
    then number_after limit (10 * n + (b - 48)) bs else None
