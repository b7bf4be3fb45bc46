use Rattle.std.proofs.Common.{◌≡◌, ◌++◌, length}
use Rattle.port_leases.specs.TableState.{rows_above}
use Rattle.world_views.proofs.books.list_rows.Given as goal

abbrev pub invariant-loop-row : goal.invariant-loop-row
invariant-loop-row l = l.rows.items ++ rows_above l.table.leases.rows l.above ≡ rows_above l.table.leases.rows 0

abbrev pub decreases-loop-row : goal.decreases-loop-row
decreases-loop-row l = length (rows_above l.table.leases.rows l.above)
