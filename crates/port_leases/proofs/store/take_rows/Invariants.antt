use Rattle.std.proofs.Common.{◌≡◌, ℕ, ◌<◌, ◌≤◌, ◌*◌, ◌&&◌, false, get_or}
use Rattle.wire_core.specs.Ranges.{range_at}
use Rattle.lease_spec.specs.Free.{has_no_row}
use Rattle.port_leases.proofs.store.take_rows.Given as goal

abbrev pub invariant-loop-i : goal.invariant-loop-i
invariant-loop-i l = record {
  done : (k : ℕ) → k < l.i → get_or l.flags k false ≡ get_or l.fn.flags k false && has_no_row l.rows.rows (range_at l.vip (8 * k));
  left : (k : ℕ) → l.i ≤ k → get_or l.flags k false ≡ get_or l.fn.flags k false;
}
