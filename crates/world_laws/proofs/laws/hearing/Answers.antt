use Rattle.world_laws.proofs.Heard.{hearing}
use Rattle.world_laws.proofs.laws.hearing.Goals as goal

pub returns : goal.returns
returns c = hearing
