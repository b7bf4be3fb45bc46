use Rattle.world_laws.proofs.Goods.{turns_are_good}
use Rattle.world_laws.proofs.laws.turns.Goals as goal

pub returns : goal.returns
returns c = turns_are_good
