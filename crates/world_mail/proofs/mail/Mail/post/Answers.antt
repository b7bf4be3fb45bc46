use Rattle.std.proofs.Common.{rules, ◌≡◌, [], ◌∷◌, ◌++◌, false}
use Rattle.world_mail.specs.declared.mail.Posted.{Posted}
use Rattle.world_mail.proofs.Waiting.{keeps_posted}
use Rattle.world_mail.proofs.mail.Mail.post.Goals as goal

pub invariant_of-self-2 : goal.invariant_of-self-2
invariant_of-self-2 c =
    let p : Posted = record { from = c.args.from; to = c.args.to; bytes = c.args.bytes } in
    let one : c.push.new.self.items ≡ c.self.inside.posted.items ++ p ∷ [] = search rules in
    let two : c.push-2.new.self.items ≡ c.self.inside.taken.items ++ false ∷ [] = search rules in
    rw (one, two) (keeps_posted c.self.inside.posted.items c.self.inside.taken.items c.self.inside.cursor p false c.self.invariant)
