use Rattle.ipip.proofs.InverseLaws.{unwraps_again}
use Rattle.ipip.proofs.laws.unwraps_again.Goals as goal

pub returns : goal.returns
returns c = unwraps_again
