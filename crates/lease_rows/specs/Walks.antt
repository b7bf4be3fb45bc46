-- What is found among rows that stand by number, and walks from row to row.
use Rattle.std.specs.Prelude.{ℕ, Bool, nat_lt, ◌==◌, ◌&&◌, List, [], ◌∷◌, Option, Some, None, filter, find}
use Rattle.wire_core.specs.declared.address.Ip4.{Ip4}
use Rattle.wire_core.specs.declared.range.Range.{Range}
use Rattle.lease_spec.specs.declared.row.Row.{Row}
use Rattle.lease_spec.specs.declared.row.Phase.{Phase}
use Rattle.lease_spec.specs.declared.row.Phase.TheVariants.{BeingLeased, Leased, Freeing}
use Rattle.lease_spec.specs.Free.{same_range}
use Rattle.lease_spec.specs.Table.{is_being, is_freeing, is_leased}

-- the row on a range
abbrev pub row_on : List Row → Range → Option Row
row_on rows r = find (λ row. same_range row.range r) rows

-- the first row with a number above this one; rows stand by number
abbrev pub row_above : List Row → ℕ → Option Row
row_above rows n = find (λ row. nat_lt n row.n) rows

-- rows with numbers above this one, by number
abbrev pub rows_above : List Row → ℕ → List Row
rows_above rows above = filter (λ row. nat_lt above row.n) rows

-- a row and those that follow it
abbrev pub onward_all : List Row → Option Row → List Row
onward_all rows None = []
onward_all rows (Some row) = row ∷ rows_above rows row.n

-- the row is in this phase
abbrev pub in_phase : Phase → Row → Bool
in_phase BeingLeased row = is_being row.phase
in_phase Leased row = is_leased row.phase
in_phase Freeing row = is_freeing row.phase

-- the rows in this phase with numbers above this one, by number
abbrev pub rows_in : List Row → Phase → ℕ → List Row
rows_in rows phase above = filter (λ row. nat_lt above row.n && in_phase phase row) rows

-- a row in this phase and those that follow it
abbrev pub onward_in : List Row → Phase → Option Row → List Row
onward_in rows phase None = []
onward_in rows phase (Some row) = row ∷ rows_in rows phase row.n

-- the machine's rows with numbers above this one, by number
abbrev pub rows_of : List Row → Ip4 → ℕ → List Row
rows_of rows machine above = filter (λ row. nat_lt above row.n && (row.machine.0 == machine.0)) rows

-- a row of the machine and those that follow it
abbrev pub onward : List Row → Ip4 → Option Row → List Row
onward rows machine None = []
onward rows machine (Some row) = row ∷ rows_of rows machine row.n
