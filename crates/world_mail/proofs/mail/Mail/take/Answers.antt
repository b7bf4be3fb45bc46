use Rattle.std.proofs.Common.{rules, ◌<◌, ◌-◌, length}
use Rattle.world_mail.proofs.Waiting.{keeps_taken}
use Rattle.world_mail.proofs.mail.Mail.take.Goals as goal

pub invariant_of-self : goal.invariant_of-self
invariant_of-self c =
    let here : c.args.k - 1 < length c.self.inside.posted.items = search rules in
    keeps_taken c.self.inside.posted.items c.self.inside.taken.items c.self.inside.cursor (c.args.k - 1) c.self.invariant here
