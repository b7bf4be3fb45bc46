-- Which ranges have an entry, and which pairs of a VIP and a machine are the same.
use Rattle.std.specs.Prelude.{ℕ, ◌*◌, Bool, ◌&&◌, nat_lt, ◌==◌, List, map, filter}
use Rattle.wire_core.specs.declared.range.Range.{Range}
use Rattle.wire_core.specs.declared.rules.VipRule.{VipRule}
use Rattle.wire_core.specs.Ranges.{allows, range_at}
use Rattle.mux_spec.specs.Rows.{Rows, no_row, starts}
use Rattle.wire_core.specs.Same.{same_ip}
use Rattle.mux_maps.specs.declared.leaving.Pair.{Pair}

-- the rule is of the range's VIP, and allows its start
abbrev pub is_in : VipRule → Range → Bool
is_in rule r = (rule.vip.0 == r.vip.0) && allows rule r.start

-- the same, among the first n starts
abbrev pub is_among : ℕ → VipRule → Range → Bool
is_among n rule r = is_in rule r && nat_lt r.start (8 * n)

-- ranges, each without a row
abbrev pub without_row : List Range → Rows
without_row rs = map (λ r. (r, no_row)) rs

-- the ranges that the rule allows, of the first n starts
abbrev pub first_ranges : ℕ → VipRule → List Range
first_ranges n rule = map (range_at rule.vip) (filter (allows rule) (starts 0 n))

-- the same VIP and the same machine
abbrev pub same_pair : Pair → Pair → Bool
same_pair a b = same_ip a.vip b.vip && same_ip a.machine b.machine
