-- Each leasable range with its kept number, at first 0, and the machine of its row, if it has one.
use Rattle.std.specs.Prelude.{ℕ, zero, suc, ◌+◌, ◌&&◌, nat_lt, nat_le, ◌==◌, List, [], ◌∷◌, map}
use Rattle.std.specs.Prelude.{filter, Option, Some, None, is_some, unwrap_or, if◌then◌else◌}
use Rattle.std.specs.List.{flat_map}
use Rattle.std.specs.Map.{lookup, set_value}
use Rattle.wire_core.specs.declared.address.Ip4.{Ip4}
use Rattle.wire_core.specs.declared.range.Range.{Range}
use Rattle.wire_core.specs.declared.rules.LeaseRules.{LeaseRules}
use Rattle.wire_core.specs.declared.rules.VipRule.{VipRule}
use Rattle.wire_core.specs.Ranges.{allows, range_at}
use Rattle.wire_core.specs.Same.{same_range}
use Rattle.mux_spec.specs.declared.row.Kept.{Kept}
use Rattle.mux_spec.specs.declared.row.Programmed.{Programmed}
use Rattle.mux_spec.specs.declared.row.Programmed.TheVariants.{Set, Same, Old}

-- each leasable range, with what is kept of it
abbrev pub Rows : Type 0
Rows = List (Range × Kept)

-- as it is at first
abbrev pub no_row : Kept
no_row = record { n = 0; machine = None }

-- ---- at first

-- so many starts from one on
unfoldable pub starts : ℕ → ℕ → List ℕ
starts start zero = []
starts start (suc n) = start ∷ starts (start + 8) n

-- the ranges that a rule allows, of 8192 multiples of 8
abbrev pub ranges_by : VipRule → List Range
ranges_by rule = map (range_at rule.vip) (filter (allows rule) (starts 0 8192))

-- no range has a row
unfoldable pub new_rows : LeaseRules → Rows
new_rows rules = map (λ r. (r, no_row)) (flat_map ranges_by rules.vips)

-- ---- a range

-- what is kept of a range that may be leased
unfoldable pub row_at : Rows → Range → Option Kept
row_at rows r = lookup (same_range r) rows

-- what is kept of any range
abbrev pub kept_at : Rows → Range → Kept
kept_at rows r = unwrap_or (row_at rows r) no_row

-- a leasable range with this row
unfoldable pub set_row : Rows → Range → Kept → Rows
set_row rows r k = set_value (same_range r) rows k

-- n above the kept number sets the row; n itself stands where it has a row
abbrev pub programmed : Kept → ℕ → Programmed
programmed k n =
    if nat_lt k.n n then Set
    else if (n == k.n) && is_some k.machine then Same
    else Old k.n

-- the rows after a Program
abbrev pub program_row : Rows → ℕ → Range → Ip4 → Rows
program_row rows n r machine =
    if nat_lt (kept_at rows r).n n then set_row rows r (record { n = n; machine = Some machine }) else rows

-- n at or above the kept number clears the row
abbrev pub unprogram_row : Rows → ℕ → Range → Rows
unprogram_row rows n r =
    if nat_le (kept_at rows r).n n then set_row rows r (record { n = n; machine = None }) else rows
