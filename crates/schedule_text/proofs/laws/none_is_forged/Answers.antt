-- What is read comes from no node's socket.
use Rattle.schedule_text.proofs.Honest.{none_forged}
use Rattle.schedule_text.proofs.laws.none_is_forged.Goals as goal

pub returns : goal.returns
returns c = none_forged
