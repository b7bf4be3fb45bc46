use Rattle.std.proofs.Common.{◌≤◌}
use Rattle.flow_table.proofs.tests.count_differing.Given as goal

abbrev pub invariant-loop-now : goal.invariant-loop-now
invariant-loop-now l = l.table.latest ≤ l.now
