use Rattle.std.proofs.Common.{ap, ◌∙◌}
use Rattle.world_model.specs.Sound.{world_of}
use Rattle.world_views.specs.Seen.{rows_in, seen}
use Rattle.world_views.proofs.Seeing.{are_entries}
use Rattle.world_views.proofs.muxes.entries.Goals as goal

pub returns : goal.returns
returns c =
    are_entries (world_of c.args.world.now) c.from_vec.result
    (c.from_vec.ensures ∙ c.in_ok-list.ensures ∙ ap (seen rows_in (world_of c.args.world.now).nodes.muxes) c.count_muxes.ensures)
