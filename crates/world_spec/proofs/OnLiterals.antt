-- The words of this crate, opened where a run is computed on literals.
use Rattle.std.specs.Prelude.{⊤}
use Rattle.world_spec.specs.Nodes.{opened}
use Rattle.world_spec.specs.World.{site, put, is_there, least_waiting, first_world}
use Rattle.world_spec.specs.Acts.{learned}
use Rattle.world_spec.specs.Steps.{after_turn, deliver, crash, restart, after_cut, cut_deliver, cut_restart}
use Rattle.world_spec.specs.Events.{happens, world, settled, basics_from}
use Rattle.world_spec.specs.Transcript.{settle, applied, lines_from, acts_in, datagrams}
use Rattle.world_spec.specs.Views.{held, conns, entries, log, book}

-- what an answer unfolds
unfoldable pub world_on_literals : ⊤
unfolding opened site put is_there least_waiting first_world learned after_turn deliver crash restart after_cut
    cut_deliver cut_restart happens world settled basics_from settle applied lines_from acts_in datagrams held conns entries log
    book
world_on_literals = tt
