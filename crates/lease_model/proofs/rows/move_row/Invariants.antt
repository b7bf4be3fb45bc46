use Rattle.std.proofs.Common.{◌≡◌, ◌++◌, map, take, drop}
use Rattle.lease_model.specs.Rows.{at_phase}
use Rattle.lease_model.proofs.rows.move_row.Given as goal

abbrev pub invariant-loop-row : goal.invariant-loop-row
invariant-loop-row l =
    l.rows ≡ map (at_phase l.n l.phase) (take l.row-index l.fn.rows) ++ drop l.row-index l.fn.rows
