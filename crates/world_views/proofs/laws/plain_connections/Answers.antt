use Rattle.world_views.proofs.Playing.{live_plain}
use Rattle.world_views.proofs.laws.plain_connections.Goals as goal

pub returns : goal.returns
returns c = live_plain
