use Rattle.std.proofs.Common.{◌≡◌, ◌++◌, map, take}
use Rattle.world_spec.specs.Views.{held_by}
use Rattle.world_views.proofs.agents.add_held.Given as goal

abbrev pub invariant-loop-i : goal.invariant-loop-i
invariant-loop-i l = l.list.items ≡ l.fn.list.items ++ map held_by (take l.i l.agent.lists.traffic.ranges.held)
