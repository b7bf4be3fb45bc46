use Rattle.control_msg.proofs.AgainLaws.{message_again}
use Rattle.control_msg.proofs.WholeLaws.{message_is}
use Rattle.control_msg.proofs.laws.message_spelling.Goals as goal

pub returns-clause-again : goal.returns-clause-again
returns-clause-again c = message_again

pub returns-clause-spelled : goal.returns-clause-spelled
returns-clause-spelled c = message_is
