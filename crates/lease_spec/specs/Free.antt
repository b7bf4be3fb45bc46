-- The least free range of a VIP.
use Rattle.std.specs.Prelude.{◌≡◌, ℕ, zero, suc, ◌+◌, ◌<◌, Bool, true, false, not, ◌&&◌, ◌==◌, List, Option, Some, None, if◌then◌else◌}
use Rattle.std.specs.List.{list_any}
use Rattle.wire_core.specs.declared.address.Ip4.{Ip4}
use Rattle.wire_core.specs.declared.range.Range.{Range}
use Rattle.wire_core.specs.declared.rules.LeaseRules.{LeaseRules}
use Rattle.wire_core.specs.Ranges.{range_at, is_leasable}
use Rattle.lease_spec.specs.declared.row.Row.{Row}

abbrev pub same_range : Range → Range → Bool
same_range a b = (a.vip.0 == b.vip.0) && (a.start == b.start)

-- no row has the range
abbrev pub has_no_row : List Row → Range → Bool
has_no_row rows r = not (list_any (λ row. same_range row.range r) rows)

-- leasable, and without a row
abbrev pub is_free : LeaseRules → List Row → Range → Bool
is_free rules rows r = is_leasable rules r && has_no_row rows r

-- of so many starts, each 8 above the one before, the first that passes
unfoldable pub first_start : (ℕ → Bool) → ℕ → ℕ → Option ℕ
first_start passes zero start = None
first_start passes (suc count) start = if passes start then Some start else first_start passes count (start + 8)

abbrev pub range_of_start : Ip4 → Option ℕ → Option Range
range_of_start vip None = None
range_of_start vip (Some start) = Some (range_at vip start)

-- The free range of a VIP with the least start. The ports have 8192 multiples of 8.
unfoldable pub least_free : LeaseRules → List Row → Ip4 → Option Range
least_free rules rows vip = range_of_start vip (first_start (λ start. is_free rules rows (range_at vip start)) 8192 0)

-- The range is free, and none of the VIP with a lesser start is.
pub record IsLeast (rules : LeaseRules) (rows : List Row) (vip : Ip4) (r : Range) : Type 0 where
  pub of_vip : r.vip ≡ vip
  pub free : is_free rules rows r ≡ true
  pub least : (start : ℕ) → start < r.start → is_free rules rows (range_at vip start) ≡ false

-- No range of the VIP is free.
abbrev pub NoneFree : LeaseRules → List Row → Ip4 → Type 0
NoneFree rules rows vip = (start : ℕ) → start < 65536 → is_free rules rows (range_at vip start) ≡ false

-- What was found is the least, and nothing is found only where nothing is free.
abbrev pub IsLeastFree : LeaseRules → List Row → Ip4 → Option Range → Type 0
IsLeastFree rules rows vip (Some r) = IsLeast rules rows vip r
IsLeastFree rules rows vip None = NoneFree rules rows vip
