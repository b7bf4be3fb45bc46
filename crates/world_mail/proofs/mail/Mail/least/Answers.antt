use Rattle.std.proofs.Common.{rules, ◌≡◌, ◌≤◌, ◌<◌, ◌∙◌, ℕ, length, ap, sym, true, false}
use Rattle.world_mail.specs.Mails.{least_waiting, waits_at}
use Rattle.world_mail.proofs.Waiting.{least_is, none_is}
use Rattle.world_mail.proofs.mail.Mail.least.Goals as goal

pub returns-then-at-len-clause-least : goal.returns-then-at-len-clause-least
returns-then-at-len-clause-least c =
    let p : c.deref.result.now ≡ c.self.inside.posted.items = search rules in
    let t : c.deref-2.result.now ≡ c.self.inside.taken.items = search rules in
    let lt : c.next_waiting-at.result < length c.self.inside.posted.items = search rules in
    let lt' : c.next_waiting-at.result < length c.deref.result.now = search rules in
    let before : (i : ℕ) → c.self.inside.cursor ≤ i → i < c.next_waiting-at.result
    → waits_at c.self.inside.posted.items c.self.inside.taken.items i ≡ false =
    rw (p, t) at c.next_waiting-at.ensures.before in
    let here : waits_at c.self.inside.posted.items c.self.inside.taken.items c.next_waiting-at.result ≡ true =
    rw (p, t) at (c.next_waiting-at.ensures.here lt') in
    let is : c.args.self.now ≡ record { posted = c.self.inside.posted.items; taken = c.self.inside.taken.items } =
    search rules in
    least_is c.self.inside.posted.items c.self.inside.taken.items c.self.inside.cursor c.self.invariant
    c.next_waiting-at.result lt before here
    ∙ sym (ap least_waiting is)

pub returns-clause-least : goal.returns-clause-least
returns-clause-least c =
    let p : c.deref.result.now ≡ c.self.inside.posted.items = search rules in
    let t : c.deref-2.result.now ≡ c.self.inside.taken.items = search rules in
    let end : c.next_waiting-at.result ≡ length c.self.inside.posted.items = search rules in
    let before : (i : ℕ) → c.self.inside.cursor ≤ i → i < c.next_waiting-at.result
    → waits_at c.self.inside.posted.items c.self.inside.taken.items i ≡ false =
    rw (p, t) at c.next_waiting-at.ensures.before in
    let is : c.args.self.now ≡ record { posted = c.self.inside.posted.items; taken = c.self.inside.taken.items } =
    search rules in
    none_is c.self.inside.posted.items c.self.inside.taken.items c.self.inside.cursor c.self.invariant
    c.next_waiting-at.result end before
    ∙ sym (ap least_waiting is)
