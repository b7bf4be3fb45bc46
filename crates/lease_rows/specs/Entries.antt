-- Rows that are found by number: entries in ascending order, of which some are dead.
use Rattle.std.specs.Prelude.{◌≡◌, ◌≢◌, Option, Some, None, ℕ, ◌+◌, ◌^◌, ◌<◌, ◌≤◌, ◌==◌, false, max, List, [], ◌∷◌, length, get_or, if◌then◌else◌}
use Rattle.lease_spec.specs.declared.row.Row.{Row}
use Rattle.lease_rows.specs.declared.entries.Entry.{Entry}

-- the rows of the live entries
abbrev pub live_rows : List Entry → List Row
live_rows [] = []
live_rows (e ∷ es) = if e.live then e.row ∷ live_rows es else live_rows es

-- each number is above n
abbrev pub AllAbove : ℕ → List Entry → Type 0
AllAbove n [] = Unit {0}
AllAbove n (e ∷ es) = (n < e.row.n) × AllAbove n es

-- numbers ascend
abbrev pub Ascend : List Entry → Type 0
Ascend [] = Unit {0}
Ascend (e ∷ es) = AllAbove e.row.n es × Ascend es

-- the least number that is above all
abbrev pub next_number : List Entry → ℕ
next_number [] = 0
next_number (e ∷ es) = max (e.row.n + 1) (next_number es)

-- Entries before i have lesser numbers than n, and those from i on haven't.
pub record SplitsAt (n : ℕ) (es : List Entry) (i : ℕ) : Type 0 where
  pub within : i ≤ length es
  pub front : (k : ℕ) (d : Entry) → k < i → (get_or es k d).row.n < n
  pub back : (k : ℕ) (d : Entry) → i ≤ k → k < length es → n ≤ (get_or es k d).row.n

-- the entry at i has the number
pub record HasAt (n : ℕ) (es : List Entry) (i : ℕ) : Type 0 where
  pub within : i < length es
  pub number : (d : Entry) → (get_or es i d).row.n ≡ n

-- no entry has the number
abbrev pub Lacks : ℕ → List Entry → Type 0
Lacks n es = (k : ℕ) (d : Entry) → k < length es → (get_or es k d).row.n ≢ n

-- where the entry with the number is
abbrev pub IsPlace : ℕ → List Entry → Option ℕ → Type 0
IsPlace n es None = Lacks n es
IsPlace n es (Some i) = HasAt n es i

abbrev pub with_row : (Row → Row) → Entry → Entry
with_row f e = record e { row = f e.row }

abbrev pub dead : Entry → Entry
dead e = record e { live = false }

-- f, at the entry with the number
abbrev pub at_number : ℕ → (Entry → Entry) → Entry → Entry
at_number n f e = if e.row.n == n then f e else e

abbrev pub row_of : Option Entry → Option Row
row_of None = None
row_of (Some e) = Some e.row

-- each row has a lesser number than those after it
abbrev pub RowsAbove : ℕ → List Row → Type 0
RowsAbove n [] = Unit {0}
RowsAbove n (row ∷ rows) = (n < row.n) × RowsAbove n rows

abbrev pub RowsAscend : List Row → Type 0
RowsAscend [] = Unit {0}
RowsAscend (row ∷ rows) = RowsAbove row.n rows × RowsAscend rows

abbrev pub RowsBelow : ℕ → List Row → Type 0
RowsBelow next [] = Unit {0}
RowsBelow next (row ∷ rows) = (row.n < next) × RowsBelow next rows

-- numbers ascend, and each is below the next one
pub record InOrder (rows : List Row) (next : ℕ) : Type 0 where
  pub ascend : RowsAscend rows
  pub below : RowsBelow next rows

-- What callers see of rows that are found by number: the rows, the least number that a new row may have, and how many
-- more rows fit without memory.
pub record Numbered : Type 0 where
  pub rows : List Row
  pub next : ℕ
  pub room : ℕ

-- numbers ascend, so many entries are live, and all fit in memory
pub record IsCounted (es : List Entry) (live : ℕ) : Type 0 where
  pub ascend : Ascend es
  pub count : live ≡ length (live_rows es)
  pub small : length es < 2 ^ 63
