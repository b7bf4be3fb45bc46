use Rattle.control_msg.proofs.WholeLaws.{frame_again, frame_is}
use Rattle.control_msg.proofs.laws.frame_spelling.Goals as goal

pub returns-clause-again : goal.returns-clause-again
returns-clause-again c = frame_again

pub returns-clause-spelled : goal.returns-clause-spelled
returns-clause-spelled c = frame_is
