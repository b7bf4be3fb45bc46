-- A file with nothing pending, one write to it and one cut.
use Rattle.std.specs.Prelude.{◌≡◌, ◌≤◌, ℕ, ◌+◌, max, List, [], ◌++◌, length, take, drop, Option, None, Some, ⊤}
use Rattle.outside_io.specs.Disk.{History, kept, then}

-- the file has these bytes, where it is told, and nothing is pending
abbrev pub Has : Option History → List ℕ → Type 0
Has None file = ⊤
Has (Some t) file = t.now ≡ kept file

-- the file as it reads, where it is told
abbrev pub file_in : Option History → List ℕ
file_in None = []
file_in (Some t) = t.now.bytes

-- nothing is pending
abbrev pub IsStill : Option History → Type 0
IsStill told = Has told (file_in told)

-- what is told after a sync that succeeded
abbrev pub synced : Option History → Option History
synced None = None
synced (Some t) = Some (then (kept t.now.bytes) t)

-- the file with these bytes at a place
abbrev pub over : ℕ → List ℕ → List ℕ → List ℕ
over at bytes file = take at file ++ bytes ++ drop (at + length bytes) file

-- A write of n bytes that a crash cuts short: any bytes in the range and past the old end, the same elsewhere.
pub record Torn (at n : ℕ) (old new : List ℕ) : Type 0 where
  pub front : take at new ≡ take at old
  pub back : drop (at + n) new ≡ drop (at + n) old
  pub no_shorter : length old ≤ length new
  pub no_longer : length new ≤ max (length old) (at + n)

-- A cut that a crash cuts short: any bytes past the new end, and a length between.
pub record Cut (n : ℕ) (old new : List ℕ) : Type 0 where
  pub front : take n new ≡ take n old
  pub no_shorter : n ≤ length new
  pub no_longer : length new ≤ length old
