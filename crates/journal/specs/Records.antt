-- What a journal file is made of.
use Rattle.std.specs.Prelude.{◌≡◌, ◌≢◌, ◌<◌, ◌≤◌, ℕ, ◌+◌, true, List, [], ◌∷◌, ◌++◌, length}
use Rattle.outside_io.specs.Disk.{Each}
use Rattle.journal.specs.File.{size_bytes, is_entry}

-- a body that a journal takes
pub record IsBody (body : List ℕ) : Type 0 where
  pub some : 1 ≤ length body
  pub most : length body ≤ 65536
  pub entry : is_entry body ≡ true

-- an open gate, a length and a body for each
abbrev pub records : List (List ℕ) → List ℕ
records [] = []
records (b ∷ bs) = (1 ∷ (size_bytes (length b) ++ b)) ++ records bs

-- The file is the records of these bodies, an ending gate, which isn't open, and whatever follows; the ending gate is
-- within the bound.
pub record IsRecords (bound : ℕ) (file : List ℕ) (bs : List (List ℕ)) : Type 0 where
  pub gate : ℕ
  pub tail : List ℕ
  pub split : file ≡ records bs ++ gate ∷ tail
  pub shut : gate ≢ 1
  pub each : Each IsBody bs
  pub within : 0 < length bs → length (records bs) + 1 ≤ bound
