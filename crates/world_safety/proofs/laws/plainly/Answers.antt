-- Each range has one holder, and each end one connection.
use Rattle.world_safety.proofs.Holders.{one_holder}
use Rattle.world_safety.proofs.laws.plainly.Goals as goal

pub returns : goal.returns
returns c = one_holder
