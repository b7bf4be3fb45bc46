use Rattle.std.proofs.Common.{◌≡◌, map}
use Rattle.world_mail.specs.Mails.{with_posted}
use Rattle.world_model.specs.World.{posted_by}
use Rattle.world_model.proofs.spreading.post_all.Given as goal

abbrev pub invariant-loop-send : goal.invariant-loop-send
invariant-loop-send l = l.mail ≡ with_posted l.initial.mail (map (posted_by l.cfg l.from) l.yielded)
