-- What a step that only grows leaves true.
use Rattle.std.proofs.Common.{◌≡◌, ℕ, ◌%◌, ◌≤◌, inl, inr, Option, None, arith}
use Rattle.paxos_spec.specs.declared.mail.Body.{Body}
use Rattle.paxos_spec.specs.declared.mail.Body.TheVariants.{Prepare, Promise, Accept, Accepted, Refuse, Chosen, Fetch}
use Rattle.paxos_spec.specs.declared.mail.Mail.{Mail}
use Rattle.paxos_spec.specs.declared.stage.Stage.{Stage}
use Rattle.paxos_spec.specs.declared.stage.Stage.TheVariants.{Follower, Candidate, Catching, Inheriting, Primary}
use Rattle.paxos_spec.specs.declared.cast.Cast.{Cast}
use Rattle.paxos_spec.specs.Votes.{Value}
use Rattle.paxos_spec.specs.Acceptor.{reach}
use Rattle.paxos_spec.specs.Leader.{Tally, LeaderState, value_out}
use Rattle.paxos_spec.specs.Agreement.{View, Disk, IsChosen, Choosable}
use Rattle.paxos_laws.specs.Facts.{LearnOk, Proposed, SafeAt, Pends, PromiseOk, BodyOk, MailOk, DiskOk, TallyOk, CountedOk, LeadingOk, StageOk, WasProposed}
use Rattle.paxos_laws.specs.Steps.{Grows}
use Rattle.paxos_laws.proofs.Quorums.{three_on}

pub choosable_back : {w u : View} → Grows w u → {s b : ℕ} {v : Value} → Choosable u s b v → Choosable w s b v
choosable_back {w} {u} g {s} {b} {v} h = record {
  by_three = three_on (λ i i5 p. elim p [
    | inl voted ↦ g.fresh i s b v voted
    | inr low ↦ inr (let up : (w.disk i).state.promise ≤ (u.disk i).state.promise = g.promise i in omega arith)
  ]) h.by_three;
}

pub chosen_on : {w u : View} → Grows w u → {s b : ℕ} {v : Value} → IsChosen w s b v → IsChosen u s b v
chosen_on g {s} {b} {v} h = record { by_three = three_on (λ i i5 p. g.voted i s b v p) h.by_three }

pub safe_on : {w u : View} → Grows w u → (b s : ℕ) (v : Value) → SafeAt w b s v → SafeAt u b s v
safe_on g b s v h a x lt c = h a x lt (choosable_back g c)

pub pends_on : {w u : View} → Grows w u → (c l : ℕ) (o : Option Value) → Pends w c l o → Pends u c l o
pends_on g c l o h s b v lt le k = h s b v lt le (choosable_back g k)

pub source_on : {w u : View} → Grows w u → (s : ℕ) (o : Option Value) → WasProposed w s o → WasProposed u s o
source_on g s o h v e = ((h v e).0, g.sent (h v e).0 s v (h v e).1)

pub promise_on : {w u : View} → Grows w u → {i c l : ℕ} {vote : Cast} → PromiseOk w i c l vote → PromiseOk u i c l vote
promise_on {w} {u} g {i} {c} {l} {vote} h = record {
  kept = (let up : (w.disk i).state.promise ≤ (u.disk i).state.promise = g.promise i in let k = h.kept in omega arith);
  before = λ s b v voted lt. elim (g.fresh i s b v voted) [
    | inl old ↦ h.before s b v old lt
    | inr high ↦ absurd (let k = h.kept in omega arith)
  ];
  stands = λ some. g.voted i l vote.ballot vote.value (h.stands some);
  bound = h.bound;
}

pub learn_on : {w u : View} → Grows w u → {s b : ℕ} {v : Value} → LearnOk w s b v → LearnOk u s b v
learn_on {w} {u} g {s} {b} {v} h = record {
  chosen = chosen_on g h.chosen;
  owner = g.learned (b % 5) s b v h.owner;
}

pub body_on : {w u : View} → Grows w u → (i : ℕ) (x : Body) → BodyOk w i x → BodyOk u i x
body_on g i (Prepare c) h = tt
body_on g i (Promise c l vote value) h = promise_on g h
body_on {w} {u} g i (Accept b s v) h = record {
  safe = safe_on g b s v h.safe;
  owner = h.owner;
  kept = (let up : (w.disk i).state.promise ≤ (u.disk i).state.promise = g.promise i in let k = h.kept in omega arith);
  positive = h.positive;
}
body_on g i (Accepted b s) h = (h.0, g.voted i s b h.0 h.1)
body_on g i (Refuse c p) h = tt
body_on g i (Chosen s b v) h = learn_on g h
body_on g i (Fetch s) h = tt

pub mail_on : {w u : View} → Grows w u → (x : Mail) → MailOk w x → MailOk u x
mail_on g x h = record { sender = h.sender; body = body_on g x.sender x.body h.body }

pub disk_on : {w u : View} → Grows w u → (d : Disk) → DiskOk w d → DiskOk u d
disk_on g d h = record {
  votes = λ s b v c. let old = h.votes s b v c in
      record { slot = old.slot; ballot = old.ballot; last = old.last; proposed = g.sent b s v old.proposed };
  standing = h.standing;
  learned = λ s b v e. let old = h.learned s b v e in (learn_on g old.0, old.1, old.2);
  logged = h.logged;
}

pub tally_on : {w u : View} → Grows w u → (c : ℕ) (t : Tally) → TallyOk w c t → TallyOk u c t
tally_on g c t h = record {
  size = h.size;
  tellers =
      λ i f. (let o = h.tellers i f in
      record {
        number = o.number;
        length = o.length;
        vote = o.vote;
        promise = promise_on g o.promise;
        within = o.within;
        at_most = o.at_most;
      });
  best = λ some.
      (let o = h.best some in
      record { by = o.by; number = o.number; voted = g.voted o.by t.longest t.best.ballot t.best.value o.voted });
  bound = h.bound;
}

pub counted_on : {w u : View} → Grows w u → (s b i : ℕ) → CountedOk w s b i → CountedOk u s b i
counted_on g s b i h = record { number = h.number; value = h.value; voted = g.voted i s b h.value h.voted }

-- no new Accept has one of this replica's ballots
abbrev pub NoNew : View → View → ℕ → Type 0
NoNew w u r = (b s : ℕ) (v : Value) → b % 5 ≡ r → Proposed u b s v → Proposed w b s v

pub leading_on : {w u : View} → Grows w u → (r : ℕ) → NoNew w u r → (d : Disk) (l : LeaderState) (o : Option Value)
    → LeadingOk w r d l o → LeadingOk u r d l o
leading_on g r same d l o h = record {
  owns = h.owns;
  pends = pends_on g l.ballot (reach d.state) o h.pends;
  source = source_on g (reach d.state) (value_out l.out) h.source;
  only = λ s v p. h.only s v (same l.ballot s v h.owns.owner p);
  place = h.place;
  size = h.size;
  counted = λ i f. counted_on g (reach d.state) l.ballot i (h.counted i f);
}

-- what a step leaves true of a replica that it leaves as it is
pub stage_on : {w u : View} → Grows w u → (r : ℕ) → NoNew w u r → (d : Disk) (l : LeaderState) (t : Stage)
    → StageOk w r d l t → StageOk u r d l t
stage_on g r same d l Follower h = tt
stage_on g r same d l Candidate h = record {
  owns = h.owns;
  none_yet = λ s v p. h.none_yet s v (same l.ballot s v h.owns.owner p);
  tally = tally_on g l.ballot l.tally h.tally;
}
stage_on g r same d l Catching h = record {
  owns = h.owns;
  none_yet = λ s v p. h.none_yet s v (same l.ballot s v h.owns.owner p);
  pends = pends_on g l.ballot l.sought l.pending h.pends;
  source = source_on g l.sought l.pending h.source;
}
stage_on g r same d l Inheriting h = leading_on g r same d l (value_out l.out) h
stage_on g r same d l Primary h = leading_on g r same d l None h
