use Rattle.std.proofs.Common.{rules, ◌≡◌, ◌∙◌, Some, None}
use Rattle.std.specs.Prelude.{option_map, slice_get}
use Rattle.world_views.proofs.Walking.{held_last, held_next, told}
use Rattle.world_views.proofs.agents.add_held.Goals as goal

pub returns-in_default : goal.returns-in_default
returns-in_default c =
    let none : option_map told (slice_get c.args.agent.now.lists.traffic.ranges.held c.loop-i.i) ≡ None = search rules in
    held_last c.args.agent.now.lists.traffic.ranges.held c.loop-i.i c.args.list.now.items c.loop-i.list.items none c.loop-i.invariant

pub loop-i-preserved : goal.loop-i-preserved
loop-i-preserved c =
    let some : option_map told (slice_get c.args.agent.now.lists.traffic.ranges.held c.loop-i.i)
    ≡ Some (c.in-Some.n, (c.in-Some.range, c.in-Some.machine)) = search rules in
    c.in_ok-push.ensures.items
    ∙ held_next c.args.agent.now.lists.traffic.ranges.held c.loop-i.i (c.in-Some.n, (c.in-Some.range, c.in-Some.machine))
    c.args.list.now.items c.loop-i.list.items some c.loop-i.invariant
