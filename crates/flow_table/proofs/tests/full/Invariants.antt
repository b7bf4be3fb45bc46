use Rattle.std.proofs.Common.{◌≡◌}
use Rattle.flow_table.proofs.tests.full.Given as goal

abbrev pub invariant-loop-id : goal.invariant-loop-id
invariant-loop-id l = l.table.latest ≡ 0
