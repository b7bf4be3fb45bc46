-- Steps that send one body, to some targets.
use Rattle.std.proofs.Common.{Some, ◌⊎◌, ◌≡◌, ℕ, ◌<◌, inl, inr, Bool, true, false, ◌&&◌, List, [], map, Option, None, refl, subst, ◌++◌}
use Rattle.std.specs.Prelude.{Contains}
use Rattle.std.proofs.lemmas.List.Elements.{All-map, All-contains}
use Rattle.wire_core.specs.declared.entry.Entry.{Entry}
use Rattle.paxos_spec.specs.declared.mail.Body.{Body}
use Rattle.paxos_spec.specs.declared.mail.Body.TheVariants.{Accept, Fetch}
use Rattle.paxos_spec.specs.declared.mail.Mail.{Mail}
use Rattle.paxos_spec.specs.Votes.{Value}
use Rattle.paxos_spec.specs.Replica.{Memory, Out, mail}
use Rattle.paxos_spec.specs.Agreement.{View, Disk, grown}
use Rattle.paxos_laws.specs.Facts.{Proposed, BodyOk, MailOk, DiskOk, StageOk, Inv, AcceptOk}
use Rattle.paxos_laws.specs.Steps.{Grows, EntryOk, Good, GoodOut, IsPlain, one_body}
use Rattle.paxos_laws.proofs.Growth.{body_on, stage_on}
use Rattle.paxos_laws.proofs.Steps.{grows, disk_kept, was_sent}

pub and_true : (a b : Bool) → (a && b) ≡ true → (a ≡ true) × (b ≡ true)
and_true true true e = (refl, refl)
and_true true false e = absurd (cc)
and_true false b e = absurd (cc)

-- the world u is what the step of r makes of w
pub record Next (w u : View) (r : ℕ) (e : Option Entry) (body : Body) (ts : List ℕ) : Type 0 where
  pub sent : u.sent ≡ w.sent ++ map (mail r body) ts
  pub grows : Grows w u
  pub disk_is : u.disk r ≡ grown (w.disk r) e
  pub disk_ok : DiskOk u (grown (w.disk r) e)
  pub new : (b s : ℕ) (v : Value) → Proposed u b s v → Proposed w b s v ⊎ (body ≡ Accept b s v)

pub record Shows (u : View) (r : ℕ) (d : Disk) (m : Memory) (body : Body) : Type 0 where
  pub body_ok : BodyOk u r body
  pub one : (b s : ℕ) (v x : Value) → body ≡ Accept b s v → Proposed u b s x → v ≡ x
  pub stage : StageOk u r d m.leader m.leader.stage

in_map : (r : ℕ) (body : Body) (ts : List ℕ) (by b s : ℕ) (v : Value) (to : ℕ)
    → Contains (map (mail r body) ts) (mail by (Accept b s v) to) → body ≡ Accept b s v
in_map r body ts by b s v to h =
    All-contains (λ (x : Mail). body ≡ x.body) (map (mail r body) ts) (mail by (Accept b s v) to)
    (All-map (λ (x : Mail). body ≡ x.body) (mail r body) ts (λ k d lt. refl)) h

pub good_one : (f : Option Value) (w : View) (r : ℕ) (e : Option Entry) (m : Memory) (body : Body) (ts : List ℕ)
    → r < 5 → Inv w → EntryOk w r (w.disk r) e
    → ((b s : ℕ) (v : Value) → body ≡ Accept b s v → (f ≡ Some v) ⊎ ((c : ℕ) × Proposed w c s v))
    → ((u : View) → Next w u r e body ts → Shows u r (grown (w.disk r) e) m body) → GoodOut f w r
    (one_body r e m body ts)
good_one p w r e m body ts r5 inv ok origin f u moves =
    let o : Out = one_body r e m body ts in
    let g : Grows w u = grows w u r o moves ok in
    let n : Next w u r e body ts = record {
      sent = moves.sent;
      grows = g;
      disk_is = moves.disk_same;
      disk_ok = disk_kept w u r (w.disk r) e g (moves.disk_same) ok (inv.disks r r5);
      new = λ b s v p. elim (was_sent w u r o moves b s v p)
          [ inl old ↦ inl old | inr new ↦ inr (in_map r body ts new.by b s v new.to new.at) ];
    } in
    let h : Shows u r (grown (w.disk r) e) m body = f u n in
    record {
      entry = ok;
      senders = All-map (λ (x : Mail). x.sender ≡ r) (mail r body) ts (λ k d lt. refl);
      mails = All-map (MailOk u) (mail r body) ts (λ k d lt. record { sender = r5; body = h.body_ok });
      origin = λ b s v sends. origin b s v (in_map r body ts sends.by b s v sends.to sends.at);
      unique = λ b s v x sends p. h.one b s v x (in_map r body ts sends.by b s v sends.to sends.at) p;
      stage = h.stage;
    }

-- the same for a body that is no Accept: nothing new is proposed
pub record After (w u : View) (r : ℕ) (e : Option Entry) : Type 0 where
  pub grows : Grows w u
  pub disk_is : u.disk r ≡ grown (w.disk r) e
  pub disk_ok : DiskOk u (grown (w.disk r) e)
  pub same : (b s : ℕ) (v : Value) → Proposed u b s v → Proposed w b s v

pub good_plain : (w : View) (r : ℕ) (e : Option Entry) (m : Memory) (body : Body) (ts : List ℕ) → r < 5 → Inv w
    → IsPlain body → EntryOk w r (w.disk r) e
    → ((u : View) → After w u r e → BodyOk u r body × StageOk u r
    (grown (w.disk r) e) m.leader m.leader.stage) → GoodOut None w r (one_body r e m body ts)
good_plain w r e m body ts r5 inv plain ok f =
    let not_accept : (b s : ℕ) (v : Value) → body ≡ Accept b s v → ⊥ = λ b s v e. subst IsPlain e plain in
    good_one None w r e m body ts r5 inv ok (λ b s v e. absurd (not_accept b s v e)) (λ u n.
    let a : After w u r e = record {
      grows = n.grows;
      disk_is = n.disk_is;
      disk_ok = n.disk_ok;
      same = λ b s v p. elim (n.new b s v p) [ inl old ↦ old | inr e ↦ absurd (not_accept b s v e) ];
    } in
    let h : BodyOk u r body × StageOk u r (grown (w.disk r) e) m.leader m.leader.stage = f u a in
    record { body_ok = h.0; one = λ b s v x e p. absurd (not_accept b s v e); stage = h.1 })

-- nothing is sent
pub good_silent : (w : View) (r : ℕ) (e : Option Entry) (m : Memory) → r < 5 → Inv w → EntryOk w r (w.disk r) e
    → ((u : View) → After w u r e → StageOk u r (grown (w.disk r) e) m.leader m.leader.stage) → GoodOut None w r
    (record { entry = e; memory = m; sends = [] })
good_silent w r e m r5 inv ok f = good_plain w r e m (Fetch 0) [] r5 inv tt ok (λ u a. (tt, f u a))

-- the memory stays, or what is said of it does
pub good_same : (w : View) (r : ℕ) (m : Memory) (body : Body) (ts : List ℕ) → r < 5 → Inv w → IsPlain body
    → BodyOk w r body
    → StageOk w r (w.disk r) m.leader m.leader.stage → GoodOut None w r (one_body r None m body ts)
good_same w r m body ts r5 inv plain ok st =
    good_plain w r None m body ts r5 inv plain tt
    (λ u a. (
      body_on a.grows r body ok,
      stage_on a.grows r (λ b s v own p. a.same b s v p)
          (w.disk r) m.leader m.leader.stage st,
    ))

pub good_quiet : (w : View) (r : ℕ) (m : Memory) → r < 5 → Inv w → StageOk w r (w.disk r) m.leader m.leader.stage
    → GoodOut None w r (record { entry = None; memory = m; sends = [] })
good_quiet w r m r5 inv st = good_same w r m (Fetch 0) [] r5 inv tt tt st

-- an Accept that was sent is in order
pub accept_of : (w : View) → Inv w → (b s : ℕ) (v : Value) → (p : Proposed w b s v) → AcceptOk w p.by b s v
accept_of w inv b s v p = (All-contains (MailOk w) w.sent (mail p.by (Accept b s v) p.to) inv.mails p.at).body

-- a step in which nothing was offered
pub unoffered : (f : Option Value) (w : View) (r : ℕ) (o : Out) → GoodOut None w r o → GoodOut f w r o
unoffered f w r o good u moves =
    let g : Good None w u r o = good u moves in
    record {
      entry = g.entry;
      senders = g.senders;
      mails = g.mails;
      unique = g.unique;
      stage = g.stage;
      origin = λ b s v sends. elim (g.origin b s v sends) [ inl none ↦ absurd (cc) | inr old ↦ inr old ];
    }
