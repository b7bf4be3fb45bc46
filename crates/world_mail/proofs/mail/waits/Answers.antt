use Rattle.std.proofs.Common.{◌∙◌}
use Rattle.world_mail.proofs.Waiting.{waits_is}
use Rattle.world_mail.proofs.mail.waits.Goals as goal

pub returns : goal.returns
returns c = c.is_waiting.ensures ∙ waits_is c.args.posted.now c.args.taken.now c.args.i _ _ c.requires.here c.index-posted-i.is
