use Rattle.std.proofs.Common.{ap, ◌∙◌}
use Rattle.world_model.specs.Sound.{world_of}
use Rattle.world_views.specs.Seen.{held_in, seen}
use Rattle.world_views.proofs.Seeing.{are_held}
use Rattle.world_views.proofs.agents.held.Goals as goal

pub returns : goal.returns
returns c =
    are_held (world_of c.args.world.now) c.from_vec.result
    (c.from_vec.ensures ∙ c.in_ok-list.ensures ∙ ap (seen held_in (world_of c.args.world.now).nodes.agents) c.count_agents.ensures)
