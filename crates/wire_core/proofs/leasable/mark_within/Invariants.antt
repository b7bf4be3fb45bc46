use Rattle.std.proofs.Common.{◌≡◌, ℕ, ◌<◌, ◌*◌, ◌+◌, ◌||◌, ◌&&◌, not, nat_le, false, length, get_or}
use Rattle.wire_core.proofs.leasable.mark_within.Given as goal

abbrev pub invariant-loop-i : goal.invariant-loop-i
invariant-loop-i l = record {
  len : length l.flags ≡ length l.fn.flags;
  done : (i : ℕ) → i < l.i
      → get_or l.flags i false
      ≡ (get_or l.fn.flags i false ||
      (nat_le l.low (8 * i) && nat_le (8 * i + 7) l.high && not (get_or l.taken i false)));
  rest : (i : ℕ) → i < length l.fn.flags → (i < l.i → ⊥) → get_or l.flags i false ≡ get_or l.fn.flags i false;
}
