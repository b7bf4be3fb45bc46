-- The rows of a book.
use Rattle.std.specs.Prelude.{ℕ, Bool, true, false, not, ◌&&◌, ◌||◌, nat_lt, ◌==◌, if◌then◌else◌, List, map, filter, count_by, find, Option, Some, None}
use Rattle.std.specs.List.{list_any}
use Rattle.wire_core.specs.declared.address.Ip4.{Ip4}
use Rattle.wire_core.specs.declared.range.Range.{Range}
use Rattle.wire_core.specs.declared.rules.LeaseRules.{LeaseRules}
use Rattle.wire_core.specs.declared.rules.MachineRule.{MachineRule}
use Rattle.wire_core.specs.Ranges.{range_at, is_leasable}
use Rattle.wire_core.specs.Same.{same_ip, same_range}
use Rattle.lease_spec.specs.declared.row.Phase.{Phase}
use Rattle.lease_spec.specs.Free.{first_start}
use Rattle.lease_model.specs.declared.row.BookRow.{BookRow}

-- row n
abbrev pub row_at : List BookRow → ℕ → Option BookRow
row_at rows n = find (λ row. row.n == n) rows

-- the row of a range
abbrev pub row_of : List BookRow → Range → Option BookRow
row_of rows r = find (λ row. same_range row.range r) rows

-- the first row of a machine
abbrev pub first_of : List BookRow → Ip4 → Option BookRow
first_of rows machine = find (λ row. same_ip row.machine machine) rows

-- how many rows a machine has
abbrev pub count_of : List BookRow → Ip4 → ℕ
count_of rows machine = count_by (λ row. same_ip row.machine machine) rows

-- row n in another phase
abbrev pub at_phase : ℕ → Phase → BookRow → BookRow
at_phase n phase row = if row.n == n then record row { phase = phase } else row

-- the rows with row n in another phase
abbrev pub moved : ℕ → Phase → List BookRow → List BookRow
moved n phase rows = map (at_phase n phase) rows

-- the rows without row n
abbrev pub without : ℕ → List BookRow → List BookRow
without n rows = filter (λ row. not (row.n == n)) rows

-- ---- the least range

-- a range that may be leased and has no row
abbrev pub is_free : LeaseRules → List BookRow → Ip4 → ℕ → Bool
is_free rules rows vip start =
    is_leasable rules (range_at vip start) && not (list_any (λ row. same_range row.range (range_at vip start)) rows)

-- the least start of a free range of a VIP; the ports have 8,192 multiples of 8
unfoldable pub least_start : LeaseRules → List BookRow → Ip4 → Option ℕ
least_start rules rows vip = first_start (is_free rules rows vip) 8192 0

-- it is this one
abbrev pub is_start : ℕ → Option ℕ → Bool
is_start start None = false
is_start start (Some least) = least == start

-- the rule of a machine
abbrev pub rule_of : List MachineRule → Ip4 → Option MachineRule
rule_of machines machine = find (λ rule. same_ip rule.machine machine) machines

-- the range is of the rule's VIP, and the least of its free ranges
abbrev pub is_least_by : LeaseRules → List BookRow → Range → Option MachineRule → Bool
is_least_by rules rows r None = false
is_least_by rules rows r (Some rule) = same_ip rule.vip r.vip && is_start r.start (least_start rules rows r.vip)

-- The range is the least free one of the machine's VIP.
unfoldable pub is_least : LeaseRules → List BookRow → Range → Ip4 → Bool
is_least rules rows r machine = is_least_by rules rows r (rule_of rules.machines machine)
