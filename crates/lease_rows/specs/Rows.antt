-- Rows that are found by range, and the count of each machine's rows.
use Rattle.std.specs.Prelude.{◌≡◌, ℕ, ◌≤◌, ◌==◌, Bool, List, Option, Some, None, count_by, unwrap_or}
use Rattle.wire_core.specs.declared.address.Ip4.{Ip4}
use Rattle.wire_core.specs.declared.range.Range.{Range}
use Rattle.lease_spec.specs.declared.row.Row.{Row}
use Rattle.lease_spec.specs.Free.{same_range}
use Rattle.lease_spec.specs.Table.{row_count}
use Rattle.lease_rows.specs.Walks.{row_on}

abbrev pub same_address : Ip4 → Ip4 → Bool
same_address a b = a.0 == b.0

abbrev pub number_of : Option Row → Option ℕ
number_of None = None
number_of (Some row) = Some row.n

-- The numbers are those of the rows on each range, no two rows have one range, and the counts are the machines'.
pub record IsIndexed (rows : List Row) (number : Range → Option ℕ) (count : Ip4 → Option ℕ) : Type 0 where
  pub numbers : (r : Range) → number r ≡ number_of (row_on rows r)
  pub single : (r : Range) → count_by (λ row. same_range row.range r) rows ≤ 1
  pub counts : (m : Ip4) → unwrap_or (count m) 0 ≡ row_count rows m
