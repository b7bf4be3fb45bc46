-- Ranges of eight ports, and which of them may be leased.
use Rattle.std.specs.Prelude.{ℕ, zero, suc, ◌+◌, ◌-◌, ◌*◌, ◌%◌, Bool, not, ◌&&◌, nat_le, ◌==◌, if◌then◌else◌}
use Rattle.std.specs.List.{list_any}
use Rattle.wire_core.specs.declared.address.Ip4.{Ip4}
use Rattle.wire_core.specs.declared.range.Range.{Range}
use Rattle.wire_core.specs.declared.rules.VipRule.{VipRule}
use Rattle.wire_core.specs.declared.rules.LeaseRules.{LeaseRules}

abbrev pub range_at : Ip4 → ℕ → Range
range_at vip start = record { vip = vip; start = start }

-- the range that a port lies in
abbrev pub range_of : Ip4 → ℕ → Range
range_of vip port = range_at vip (port - port % 8)

-- the range with this start has the port
abbrev pub has_port : ℕ → ℕ → Bool
has_port start port = nat_le start port && nat_le port (start + 7)

-- a multiple of 8, all eight ports within the rule's bounds, none of them an endpoint's
abbrev pub allows : VipRule → ℕ → Bool
allows rule start =
    (start % 8 == 0) && nat_le rule.low start && nat_le (start + 7) rule.high
    && not (list_any (has_port start) rule.taken)

-- the rule of the range's VIP allows its start
abbrev pub is_leasable : LeaseRules → Range → Bool
is_leasable rules r = list_any (λ rule. (rule.vip.0 == r.vip.0) && allows rule r.start) rules.vips

-- how many of the first n multiples of 8 pass
unfoldable pub count_starts : (ℕ → Bool) → ℕ → ℕ
count_starts passes zero = 0
count_starts passes (suc n) = count_starts passes n + (if passes (8 * n) then 1 else 0)

-- how many ranges of the VIP may be leased; there are 8192 multiples of 8 among the ports
abbrev pub leasable_count : LeaseRules → Ip4 → ℕ
leasable_count rules vip = count_starts (λ start. is_leasable rules (range_at vip start)) 8192
