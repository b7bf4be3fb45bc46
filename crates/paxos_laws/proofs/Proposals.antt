-- Whatever value stands anywhere was proposed at its slot.
use Rattle.std.proofs.Common.{◌≡◌, ℕ, ◌<◌, true, Bool, Option, Some, slice_get, subst, arith}
use Rattle.std.specs.Prelude.{Contains}
use Rattle.std.proofs.lemmas.List.Elements.{All-contains}
use Rattle.paxos_spec.specs.declared.mail.Body.{Body}
use Rattle.paxos_spec.specs.declared.mail.Body.TheVariants.{Promise, Chosen}
use Rattle.paxos_spec.specs.declared.stage.Stage.{Stage}
use Rattle.paxos_spec.specs.declared.stage.Stage.TheVariants.{Follower, Candidate, Catching, Inheriting, Primary}
use Rattle.paxos_spec.specs.declared.cast.Cast.{Cast}
use Rattle.paxos_spec.specs.Votes.{Value, cast}
use Rattle.paxos_spec.specs.Acceptor.{reach}
use Rattle.paxos_spec.specs.Leader.{LeaderState, is_leading, value_out}
use Rattle.paxos_spec.specs.Replica.{Out, mail}
use Rattle.paxos_spec.specs.Agreement.{View, Disk, world_log}
use Rattle.paxos_laws.specs.Facts.{Proposed, PromiseOk, MailOk, StageOk, BestOk, Inv}
use Rattle.paxos_laws.specs.Steps.{Moves, Good}
use Rattle.paxos_laws.specs.CommonLog.{WasLearned}
use Rattle.paxos_laws.specs.Values.{Said, AtSome, OnDisk, InMail, InMemory, Everywhere, Passes}
use Rattle.paxos_laws.proofs.Claims.{learned_of, chosen_proposed}
use Rattle.paxos_laws.proofs.Tells.{proposed_of}
use Rattle.paxos_laws.proofs.CommonLog.{log_was_learned}
use Rattle.paxos_laws.proofs.More.{values_travel}

learned_proposed : (w : View) → Inv w → (i s b : ℕ) (v : Value) → i < 5
    → Contains (w.disk i).learns (record { slot = s; ballot = b; value = v }) → Proposed w b s v
learned_proposed w inv i s b v i5 h = chosen_proposed w inv s b v (learned_of w inv i s b v i5 h)

on_disk : (w : View) → Inv w → (i : ℕ) → i < 5 → OnDisk (Proposed w) (w.disk i)
on_disk w inv i i5 = record {
  voted = λ s b v h. proposed_of w inv i s b v i5 h;
  learned = λ s b v h. learned_proposed w inv i s b v i5 h;
  stands = λ some. proposed_of w inv i _ _ _ i5 ((inv.disks i i5).standing some);
  logged = λ s x at. learned_proposed w inv i s x.ballot x.value i5 ((inv.disks i i5).logged s x at);
}

-- what a message that was sent says is true
body_of : (w : View) → Inv w → (by to : ℕ) (body : Body) → Contains w.sent (mail by body to)
    → MailOk w (mail by body to)
body_of w inv by to body at = All-contains (MailOk w) w.sent (mail by body to) inv.mails at

cast_is : (b : ℕ) (v : Value) → 0 < b → cast b (Some v) ≡ record { ballot = b; value = v }
cast_is b v some = grind arith

told_proposed : (w : View) → Inv w → (by to c l b : ℕ) (v : Value)
    → 0 < b → Contains w.sent (mail by (Promise c l b (Some v)) to) → Proposed w b l v
told_proposed w inv by to c l b v some at =
    let ok : MailOk w (mail by (Promise c l b (Some v)) to) = body_of w inv by to _ at in
    let told : PromiseOk w by c l (record { ballot = b; value = v }) =
    subst (λ (x : Cast). PromiseOk w by c l x) (cast_is b v some) ok.body in
    proposed_of w inv by l b v ok.sender (told.stands some)

in_mail : (w : View) → Inv w → InMail (Proposed w) w
in_mail w inv = record {
  accept = λ by to b s v at. record { by = by; to = to; at = at };
  chosen = λ by to b s v at. chosen_proposed w inv s b v (body_of w inv by to (Chosen s b v) at).body.chosen;
  promise = λ by to c l b v some at. told_proposed w inv by to c l b v some at;
}

pends_at : (w : View) (r : ℕ) (d : Disk) (l : LeaderState) (t : Stage)
    → StageOk w r d l t → t ≡ Catching → AtSome (Proposed w) l.sought l.pending
pends_at w r d l Catching h is = h.source
pends_at w r d l Follower h is = absurd (cc)
pends_at w r d l Candidate h is = absurd (cc)
pends_at w r d l Inheriting h is = absurd (cc)
pends_at w r d l Primary h is = absurd (cc)

out_at : (w : View) (r : ℕ) (d : Disk) (l : LeaderState) (t : Stage)
    → StageOk w r d l t → is_leading t ≡ true → AtSome (Proposed w) (reach d.state) (value_out l.out)
out_at w r d l Inheriting h is = h.source
out_at w r d l Primary h is = h.source
out_at w r d l Follower h is = absurd (cc)
out_at w r d l Candidate h is = absurd (cc)
out_at w r d l Catching h is = absurd (cc)

best_at : (w : View) → Inv w → (r : ℕ) (d : Disk) (l : LeaderState) (t : Stage) → StageOk w r d l t → t ≡ Candidate
    → 0 < l.tally.best.ballot → Proposed w l.tally.best.ballot l.tally.longest l.tally.best.value
best_at w inv r d l Candidate h is some =
    let best : BestOk w l.tally = h.tally.best some in
    proposed_of w inv best.by _ _ _ best.number best.voted
best_at w inv r d l Follower h is some = absurd (cc)
best_at w inv r d l Catching h is some = absurd (cc)
best_at w inv r d l Inheriting h is some = absurd (cc)
best_at w inv r d l Primary h is some = absurd (cc)

in_memory : (w : View) → Inv w → (r : ℕ) → r < 5 → InMemory (Proposed w) (w.disk r) (w.memory r).leader
in_memory w inv r r5 =
    let l : LeaderState = (w.memory r).leader in
    let ok : StageOk w r (w.disk r) l l.stage = inv.mems r r5 in
    record {
      best = λ is some. best_at w inv r (w.disk r) l l.stage ok is some;
      pending = λ is. pends_at w r (w.disk r) l l.stage ok is;
      outstanding = λ is. out_at w r (w.disk r) l l.stage ok is;
    }

in_log : (w : View) → Inv w → (s : ℕ) → AtSome (Proposed w) s (slice_get (world_log w) s)
in_log w inv s v at =
    let k : WasLearned w s v = log_was_learned w inv s v at in
    (k.ballot, learned_proposed w inv k.by s k.ballot v k.number k.learned)

pub each_was_proposed : (w : View) → Inv w → Everywhere (Proposed w) w
each_was_proposed w inv = record {
  disks = λ i i5. on_disk w inv i i5;
  mails = in_mail w inv;
  memories = λ r r5. in_memory w inv r r5;
  chosen = λ s b v h. chosen_proposed w inv s b v h;
  log = λ s. in_log w inv s;
}

-- What is true of each value of which something is said, is true of each.
pub everywhere_on : (P Q : Said) (w : View) → ((b s : ℕ) (v : Value) → P b s v → Q b s v) → Everywhere P w
    → Everywhere Q w
everywhere_on P Q w f h = record {
  disks = λ i i5. record {
    voted = λ s b v at. f b s v ((h.disks i i5).voted s b v at);
    learned = λ s b v at. f b s v ((h.disks i i5).learned s b v at);
    stands = λ some. f _ _ _ ((h.disks i i5).stands some);
    logged = λ s x at. f _ _ _ ((h.disks i i5).logged s x at);
  };
  mails = record {
    accept = λ by to b s v at. f b s v (h.mails.accept by to b s v at);
    chosen = λ by to b s v at. f b s v (h.mails.chosen by to b s v at);
    promise = λ by to c l b v some at. f b l v (h.mails.promise by to c l b v some at);
  };
  memories = λ r r5. record {
    best = λ is some. f _ _ _ ((h.memories r r5).best is some);
    pending = λ is v e. (let at = (h.memories r r5).pending is v e in (at.0, f at.0 _ v at.1));
    outstanding = λ is v e. (let at = (h.memories r r5).outstanding is v e in (at.0, f at.0 _ v at.1));
  };
  chosen = λ s b v k. f b s v (h.chosen s b v k);
  log = λ s v e. (let at = h.log s v e in (at.0, f at.0 s v at.1));
}

pub tests_travel : (test : Value → Bool) (f : Option Value) (w u : View) (r : ℕ) (o : Out)
    → Moves w u r o → Good f w u r o
    → ((v : Value) → f ≡ Some v → test v ≡ true)
    → ((b s : ℕ) (v : Value) → Proposed w b s v → test v ≡ true)
    → (b s : ℕ) (v : Value) → Proposed u b s v → test v ≡ true
tests_travel test = values_travel (λ (v : Value). test v ≡ true)

pub tests_hold : (test : Value → Bool) (w : View) → Inv w
    → ((b s : ℕ) (v : Value) → Proposed w b s v → test v ≡ true) → Everywhere (Passes test) w
tests_hold test w inv all = everywhere_on (Proposed w) (Passes test) w all (each_was_proposed w inv)
