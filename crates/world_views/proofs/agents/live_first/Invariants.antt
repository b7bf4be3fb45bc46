use Rattle.std.proofs.Common.{◌≡◌}
use Rattle.world_model.specs.Sound.{world_of}
use Rattle.world_views.specs.Seen.{live_in, seen}
use Rattle.world_views.proofs.agents.live_first.Given as goal

abbrev pub invariant-loop-i : goal.invariant-loop-i
invariant-loop-i l = l.list.items ≡ seen live_in (world_of l.world).nodes.agents l.i
