use Rattle.std.proofs.Common.{◌≤◌}
use Rattle.plain_schedule.proofs.choice.standing.Given as goal

abbrev pub invariant-loop-at : goal.invariant-loop-at
invariant-loop-at l = l.at ≤ l.n

abbrev pub decreases-loop-at : goal.decreases-loop-at
decreases-loop-at l = l.at
