use Rattle.std.proofs.Common.{length, ◌-◌, ◌≤◌, ◌≡◌}
use Rattle.real_io.proofs.disk.read_all_at.Given as goal

abbrev pub invariant-loop-got : goal.invariant-loop-got
invariant-loop-got l = record { within : l.got ≤ length l.buf; room : length l.buf ≡ length l.initial.buf }

abbrev pub decreases-loop-got : goal.decreases-loop-got
decreases-loop-got l = length l.initial.buf - l.got
