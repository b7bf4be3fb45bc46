use Rattle.std.proofs.Common.{◌≡◌, ◌++◌, map, take, drop}
use Rattle.lease_spec.specs.Table.{cleared}
use Rattle.lease_rows.specs.Entries.{with_row}
use Rattle.lease_rows.proofs.blocks.clear_each.Given as goal

abbrev pub invariant-loop-e : goal.invariant-loop-e
invariant-loop-e l = l.entries ≡ map (with_row (cleared l.agent l.boot)) (take l.e-index l.fn.entries) ++ drop l.e-index l.fn.entries
