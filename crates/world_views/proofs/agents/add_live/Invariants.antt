use Rattle.std.proofs.Common.{◌≡◌, ◌++◌, take}
use Rattle.world_views.proofs.agents.add_live.Given as goal

abbrev pub invariant-loop-i : goal.invariant-loop-i
invariant-loop-i l = l.list.items ≡ l.fn.list.items ++ take l.i l.agent.lists.traffic.conns
