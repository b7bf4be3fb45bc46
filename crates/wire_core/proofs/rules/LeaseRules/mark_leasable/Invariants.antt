use Rattle.std.proofs.Common.{◌≡◌, ℕ, ◌<◌, ◌*◌, ◌||◌, ◌&&◌, ◌==◌, false, length, take, get_or}
use Rattle.std.specs.List.{list_any}
use Rattle.wire_core.specs.Ranges.{allows}
use Rattle.wire_core.proofs.rules.LeaseRules.mark_leasable.Given as goal

abbrev pub invariant-loop-rule : goal.invariant-loop-rule
invariant-loop-rule l = record {
  len : length l.flags ≡ length l.fn.flags;
  each : (i : ℕ) → i < length l.fn.flags
      → get_or l.flags i false
      ≡ (get_or l.fn.flags i false
      || list_any (λ rule. (rule.vip.0 == l.vip.0) && allows rule (8 * i)) (take l.rule-index l.self.vips));
}
