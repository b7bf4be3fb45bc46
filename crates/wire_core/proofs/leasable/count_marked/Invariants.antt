use Rattle.std.proofs.Common.{◌≡◌, ◌≤◌, ◌/◌, false, get_or}
use Rattle.wire_core.specs.Ranges.{count_starts}
use Rattle.wire_core.proofs.leasable.count_marked.Given as goal

abbrev pub invariant-loop-i : goal.invariant-loop-i
invariant-loop-i l = record {
  counted : l.count ≡ count_starts (λ start. get_or l.flags (start / 8) false) l.i;
  below : l.count ≤ l.i;
}
