-- Whatever message that was sent comes to a replica, what it does shows what it owes.
use Rattle.std.proofs.Common.{◌≡◌, ℕ, None, slice_get, refl, subst}
use Rattle.std.specs.Prelude.{Contains}
use Rattle.std.proofs.lemmas.List.Elements.{All-contains}
use Rattle.paxos_spec.specs.declared.mail.Body.{Body}
use Rattle.paxos_spec.specs.declared.mail.Body.TheVariants.{Prepare, Promise, Accept, Accepted, Refuse, Chosen, Fetch}
use Rattle.paxos_spec.specs.declared.mail.Mail.{Mail}
use Rattle.paxos_spec.specs.Votes.{cast}
use Rattle.paxos_spec.specs.Replica.{mail, on_message}
use Rattle.paxos_spec.specs.Agreement.{View}
use Rattle.paxos_laws.specs.Facts.{BodyOk, MailOk}
use Rattle.paxos_laws.specs.Steps.{GoodOut, Here}
use Rattle.paxos_laws.proofs.Promising.{prepare_good, promise_good}
use Rattle.paxos_laws.proofs.Voting.{accept_good, accepted_good, refuse_good}
use Rattle.paxos_laws.proofs.Learning.{chosen_good, fetched_good}

message_of : (w : View) (r : ℕ) (x : Mail) → Here w r → Contains w.sent x → MailOk w x → (b : Body) → x.body ≡ b
    → BodyOk w x.sender b → GoodOut None w r (on_message r (w.disk r).state (w.memory r) x.sender b)
message_of w r x h at ok (Prepare c) e m = prepare_good w r x.sender c h
message_of w r x h at ok (Promise c l vote value) e m = promise_good w r x.sender c l (cast vote value) h ok.sender m
message_of w r x h at ok (Accept c s v) e m =
    accept_good w r x.sender c s v h
    (record {
      by = x.sender;
      to = x.target;
      at = subst (λ (y : Body). Contains w.sent (mail x.sender y x.target)) e at;
    })
message_of w r x h at ok (Accepted c s) e m = accepted_good w r x.sender c s m.0 h ok.sender m.1
message_of w r x h at ok (Refuse c p) e m = refuse_good w r c p h
message_of w r x h at ok (Chosen s c v) e m = chosen_good w r x.sender c s v h m
message_of w r x h at ok (Fetch s) e m = fetched_good w r x.sender s (slice_get (w.disk r).state.log s) h refl

-- Whatever message that was sent comes to a replica, what it does is in order.
pub message_good : (w : View) (r : ℕ) (x : Mail) → Here w r → Contains w.sent x
    → GoodOut None w r (on_message r (w.disk r).state (w.memory r) x.sender x.body)
message_good w r x h at =
    let ok : MailOk w x = All-contains (MailOk w) w.sent x h.inv.mails at in
    message_of w r x h at ok x.body refl ok.body
