use Rattle.std.proofs.Common.{◌≡◌, find, length}
use Rattle.std.specs.List.{flat_map}
use Rattle.port_leases.specs.TableState.{rows_of}
use Rattle.plain_schedule.specs.FullLeases.{AreFull, end_of, plain}
use Rattle.plain_schedule.specs.Packets.{eight, first_free, is_free}
use Rattle.plain_schedule.proofs.choice.first_free.Given as goal

abbrev pub invariant-loop-row : goal.invariant-loop-row
invariant-loop-row l = record {
  found : find (is_free l.table l.opened) (flat_map (eight l.key) (rows_of l.table.leases.rows l.key.src l.above))
      ≡ first_free l.table l.opened l.key;
  full : AreFull (plain l.table l.opened) (end_of l.key) l.above;
}

abbrev pub decreases-loop-row : goal.decreases-loop-row
decreases-loop-row l = length (rows_of l.table.leases.rows l.key.src l.above)
