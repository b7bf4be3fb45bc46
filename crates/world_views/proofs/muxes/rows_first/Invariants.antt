use Rattle.std.proofs.Common.{◌≡◌}
use Rattle.world_model.specs.Sound.{world_of}
use Rattle.world_views.specs.Seen.{rows_in, seen}
use Rattle.world_views.proofs.muxes.rows_first.Given as goal

abbrev pub invariant-loop-i : goal.invariant-loop-i
invariant-loop-i l = l.list.items ≡ seen rows_in (world_of l.world).nodes.muxes l.i
