use Rattle.std.proofs.Common.{rules, ◌≡◌, ◌∙◌, Some, None}
use Rattle.std.specs.Prelude.{slice_get}
use Rattle.world_views.proofs.Walking.{live_last, live_next}
use Rattle.world_views.proofs.agents.add_live.Goals as goal

pub returns-in_default : goal.returns-in_default
returns-in_default c =
    let none : slice_get c.args.agent.now.lists.traffic.conns c.loop-i.i ≡ None = search rules in
    live_last c.args.agent.now.lists.traffic.conns c.loop-i.i c.args.list.now.items c.loop-i.list.items none c.loop-i.invariant

pub loop-i-preserved : goal.loop-i-preserved
loop-i-preserved c =
    let some : slice_get c.args.agent.now.lists.traffic.conns c.loop-i.i ≡ Some c.in-Some.connection = search rules in
    c.in_ok-push.ensures.items
    ∙ live_next c.args.agent.now.lists.traffic.conns c.loop-i.i c.in-Some.connection c.args.list.now.items c.loop-i.list.items some
    c.loop-i.invariant
