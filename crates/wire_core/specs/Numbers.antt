-- Big-endian numbers in bytes.
use Rattle.std.specs.Prelude.{ℕ, ◌+◌, ◌<◌, List, length, drop, slice_index, nat_lt, Option, Some, None, if◌then◌else◌}
use Rattle.byteorder.specs.Endian.{big_number, big_bytes}

-- a number in n bytes, the highest first
unfoldable pub number_bytes : ℕ → ℕ → List ℕ
number_bytes n x = big_bytes n x

-- the number of n bytes at this place, where so many remain
abbrev pub number_at : ℕ → List ℕ → ℕ → Option ℕ
number_at n bytes at = if nat_lt (length bytes) (at + n) then None else Some (big_number n (drop at bytes))

-- each of the numbers is a byte
abbrev pub AreBytes : List ℕ → Type 0
AreBytes bytes = (k : ℕ) → slice_index bytes k < 256
