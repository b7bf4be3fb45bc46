-- The image that some bytes pick: as near to these bytes as an image can be.
use Rattle.std.specs.Prelude.{ℕ, zero, suc, min, max, Bool, ◌||◌, List, [], ◌∷◌, ◌++◌, length, get_or, nat_le, if◌then◌else◌}
use Rattle.outside_io.specs.Disk.{FileState, is_unsynced}

-- the image has the length of the pick, but no less than the least and no more than the greatest
abbrev pub picked_length : FileState → List ℕ → ℕ
picked_length f pick = min (max f.least (length pick)) f.greatest

-- a crash may leave any byte at this place: it was written since the last sync, or stands past the end
abbrev pub is_free : FileState → ℕ → Bool
is_free f i = is_unsynced f i || nat_le (length f.bytes) i

-- where any byte may be left it is the pick's, 0 past the pick's end; elsewhere the file's
abbrev pub picked_byte : FileState → List ℕ → ℕ → ℕ
picked_byte f pick i = if is_free f i then get_or pick i 0 else get_or f.bytes i 0

-- the bytes at the first n places
abbrev pub first_bytes : (ℕ → ℕ) → ℕ → List ℕ
first_bytes byte zero = []
first_bytes byte (suc n) = first_bytes byte n ++ byte n ∷ []

-- the image
abbrev pub picked : FileState → List ℕ → List ℕ
picked f pick = first_bytes (picked_byte f pick) (picked_length f pick)
