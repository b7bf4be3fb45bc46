use Rattle.std.proofs.Common.{◌≡◌, ℕ, ◌<◌, ◌*◌, ◌||◌, false, length, take, get_or}
use Rattle.std.specs.List.{list_any}
use Rattle.wire_core.specs.Ranges.{has_port}
use Rattle.wire_core.proofs.leasable.mark_ports.Given as goal

abbrev pub invariant-loop-port : goal.invariant-loop-port
invariant-loop-port l = record {
  len : length l.flags ≡ length l.fn.flags;
  each : (i : ℕ) → i < length l.fn.flags
      → get_or l.flags i false ≡ (get_or l.fn.flags i false || list_any (has_port (8 * i)) (take l.port-index l.ports));
}
