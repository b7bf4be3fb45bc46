-- A step of one replica keeps what holds of every world.
use Rattle.std.proofs.Common.{◌≡◌, ◌≢◌, ℕ, zero, suc, ◌+◌, ◌%◌, ◌<◌, ◌≤◌, ◌⊎◌, inl, inr, max, List, [], ◌∷◌, ◌++◌, length, Option, Some, None, slice_get, refl, sym, ap, ◌∙◌, arith, subst, length-append, nat_lt, true}
use Rattle.std.specs.Prelude.{Contains, All}
use Rattle.std.proofs.lemmas.Bool.Decides.{nat_tests}
use Rattle.std.proofs.lemmas.List.Elements.{Contains-append_cases, Contains-append_left, All-append, All-weaker, All-contains}
use Rattle.wire_core.specs.declared.entry.Entry.{Entry}
use Rattle.wire_core.specs.declared.entry.Entry.TheVariants as entry
use Rattle.paxos_spec.specs.declared.mail.Body.TheVariants.{Accept}
use Rattle.paxos_spec.specs.declared.mail.Mail.{Mail}
use Rattle.paxos_spec.specs.declared.cast.Cast.{Cast}
use Rattle.paxos_spec.specs.Votes.{Value}
use Rattle.paxos_spec.specs.Acceptor.{AcceptorState, reach, most_slots, with_learned}
use Rattle.paxos_spec.specs.Replica.{Out, mail}
use Rattle.paxos_spec.specs.Agreement.{View, Disk, Placed, after, grown}
use Rattle.paxos_laws.specs.Facts.{LearnOk, Proposed, MailOk, VoteOk, DiskOk, Inv}
use Rattle.paxos_laws.specs.Steps.{Moves, Grows, EntryOk, SendsAccept, Good}
use Rattle.paxos_laws.proofs.Quorums.{by_same, by_if}
use Rattle.paxos_laws.proofs.Growth.{chosen_on, mail_on, disk_on, stage_on, NoNew}

-- `Contains` at a list that is written out
pub in_cons : {X : Type 0} (y : X) (xs : List X) (x : X) → Contains (y ∷ xs) x → (y ≡ x) ⊎ Contains xs x
in_cons y xs x (zero, lt, e) = inl e
in_cons y xs x (suc k, lt, e) = inr (k, omega arith, e)

pub in_tail : {X : Type 0} (y : X) (xs : List X) (x : X) → Contains xs x → Contains (y ∷ xs) x
in_tail y xs x h = (suc h.0, let lt = h.1 in omega arith, h.2)

pub in_head : {X : Type 0} (x : X) (xs : List X) → Contains (x ∷ xs) x
in_head x xs = (0, omega arith, refl)

-- the disk after it learned
abbrev pub disk_learned : Disk → ℕ → Value → Disk
disk_learned d c v =
    record {
      state = with_learned d.state c v;
      votes = d.votes;
      learns = record { slot = reach d.state; ballot = c; value = v } ∷ d.learns;
    }

-- a Learn that has room
pub after_learned : (d : Disk) (c : ℕ) (v : Value) → reach d.state < most_slots
    → after d (entry.Learn c v) ≡ disk_learned d c v
after_learned d c v room = (let e : nat_lt (reach d.state) most_slots ≡ true = grind (arith, nat_tests) in rw e refl)

pub in_learns : (d : Disk) (c : ℕ) (v : Value) → reach d.state < most_slots
    → Contains (after d (entry.Learn c v)).learns (record { slot = reach d.state; ballot = c; value = v })
in_learns d c v room =
    subst (λ (x : Disk). Contains x.learns (record { slot = reach d.state; ballot = c; value = v }))
    (sym (after_learned d c v room)) (in_head _ d.learns)

promise_kept : (d : Disk) (e : Option Entry) → d.state.promise ≤ (grown d e).state.promise
promise_kept d None = omega arith
promise_kept d (Some (entry.Boot version role index boot)) = omega arith
promise_kept d (Some (entry.Epoch epoch)) = omega arith
promise_kept d (Some (entry.Promise c)) = omega arith
promise_kept d (Some (entry.Vote c v)) = omega arith
promise_kept d (Some (entry.Learn c v)) =
    by_if (λ (a : AcceptorState). d.state.promise ≤ a.promise) (nat_lt (reach d.state) most_slots) (λ _. omega arith)
    (λ _. omega arith)

reach_kept : (d : Disk) (e : Option Entry) → reach d.state ≤ reach (grown d e).state
reach_kept d None = omega arith
reach_kept d (Some (entry.Boot version role index boot)) = omega arith
reach_kept d (Some (entry.Epoch epoch)) = omega arith
reach_kept d (Some (entry.Promise c)) = omega arith
reach_kept d (Some (entry.Vote c v)) = omega arith
reach_kept d (Some (entry.Learn c v)) =
    by_if (λ (a : AcceptorState). reach d.state ≤ reach a) (nat_lt (reach d.state) most_slots)
    (λ _. omega (arith, length-append d.state.log (record { ballot = c; value = v } ∷ []))) (λ _. omega arith)

votes_kept : (d : Disk) (e : Option Entry) (x : Placed) → Contains d.votes x → Contains (grown d e).votes x
votes_kept d None x h = h
votes_kept d (Some (entry.Boot version role index boot)) x h = h
votes_kept d (Some (entry.Epoch epoch)) x h = h
votes_kept d (Some (entry.Promise c)) x h = h
votes_kept d (Some (entry.Vote c v)) x h = in_tail _ d.votes x h
votes_kept d (Some (entry.Learn c v)) x h = h

learns_kept : (d : Disk) (e : Option Entry) (x : Placed) → Contains d.learns x → Contains (grown d e).learns x
learns_kept d None x h = h
learns_kept d (Some (entry.Boot version role index boot)) x h = h
learns_kept d (Some (entry.Epoch epoch)) x h = h
learns_kept d (Some (entry.Promise c)) x h = h
learns_kept d (Some (entry.Vote c v)) x h = h
learns_kept d (Some (entry.Learn c v)) x h =
    by_if (λ (xs : List Placed). Contains xs x) (nat_lt (reach d.state) most_slots) (λ _. in_tail _ d.learns x h)
    (λ _. h)

votes_fresh : (w : View) (r : ℕ) (d : Disk) (e : Option Entry) → EntryOk w r d e → (x : Placed)
    → Contains (grown d e).votes x → Contains d.votes x ⊎ (d.state.promise ≤ x.ballot)
votes_fresh w r d None ok x h = inl h
votes_fresh w r d (Some (entry.Boot version role index boot)) ok x h = inl h
votes_fresh w r d (Some (entry.Epoch epoch)) ok x h = inl h
votes_fresh w r d (Some (entry.Promise c)) ok x h = inl h
votes_fresh w r d (Some (entry.Vote c v)) ok x h = elim (in_cons _ d.votes x h) [
  | inl e ↦ inr (let same : c ≡ x.ballot = ap (λ (p : Placed). p.ballot) e in let le = ok.0 in omega arith)
  | inr old ↦ inl old
]
votes_fresh w r d (Some (entry.Learn c v)) ok x h = inl h

pub proposed_on : (w u : View) (r : ℕ) (o : Out) → Moves w u r o → (b s : ℕ) (v : Value) → Proposed w b s v
    → Proposed u b s v
proposed_on w u r o m b s v p =
    record {
      by = p.by;
      to = p.to;
      at = subst (λ (xs : List Mail). Contains xs (mail p.by (Accept b s v) p.to)) (sym m.sent)
          (Contains-append_left w.sent o.sends _ p.at);
    }

pub grows : (w u : View) (r : ℕ) (o : Out) → Moves w u r o → EntryOk w r (w.disk r) o.entry → Grows w u
grows w u r o m ok = record {
  promise = λ i. by_same i r
      (λ e. rw e (rw m.disk_same (promise_kept (w.disk r) o.entry)))
      (λ ne. rw (m.disk_other i ne) (omega arith));
  reach = λ i. by_same i r
      (λ e. rw e (rw m.disk_same (reach_kept (w.disk r) o.entry)))
      (λ ne. rw (m.disk_other i ne) (omega arith));
  learned = λ i s b v h. by_same i r
      (λ e. rw e (rw m.disk_same (learns_kept (w.disk r) o.entry _ (rw e at h))))
      (λ ne. rw (m.disk_other i ne) h);
  voted = λ i s b v h. by_same i r
      (λ e. rw e (rw m.disk_same (votes_kept (w.disk r) o.entry _ (rw e at h))))
      (λ ne. rw (m.disk_other i ne) h);
  fresh = λ i s b v h. by_same i r
      (λ e. rw e
      (votes_fresh w r (w.disk r) o.entry ok (record { slot = s; ballot = b; value = v })
      (rw (e, m.disk_same) at h)))
      (λ ne. inl (rw (m.disk_other i ne) at h));
  sent = proposed_on w u r o m;
}

pub get_push : {X : Type 0} (xs : List X) (y x : X) (s : ℕ) → slice_get (xs ++ y ∷ []) s ≡ Some x
    → (slice_get xs s ≡ Some x) ⊎ ((s ≡ length xs) × (y ≡ x))
get_push [] y x zero e = inr (refl, cc)
get_push [] y x (suc s) e = absurd (cc)
get_push (z ∷ xs) y x zero e = inl e
get_push (z ∷ xs) y x (suc s) e = elim (get_push xs y x s e) [ inl h ↦ inl h | inr h ↦ inr (ap suc h.0, h.1) ]

voted_ok : (u : View) (d : Disk) (c : ℕ) (v : Value) → DiskOk u d → d.state.promise ≤ c
    → Proposed u c (reach d.state) v → DiskOk u (after d (entry.Vote c v))
voted_ok u d c v h le p = record {
  votes = λ s b x at. elim
      (in_cons (record { slot = reach d.state; ballot = c; value = v }) d.votes
      (record { slot = s; ballot = b; value = x }) at) [
        | inl e ↦ subst (λ (q : Placed). VoteOk u (after d (entry.Vote c v)) q.slot q.ballot q.value) e
            (record { slot = omega arith; ballot = omega arith; last = λ _. omega arith; proposed = p })
        | inr old ↦
            (let o = h.votes s b x old in
            record {
              slot = o.slot;
              ballot = (let a = o.ballot in omega arith);
              last = λ _. (let a = o.ballot in omega arith);
              proposed = o.proposed;
            })
      ];
  standing = λ some. in_head _ d.votes;
  learned = λ s b x e. (let o = h.learned s b x e in (o.0, (let a = o.1 in omega arith), o.2));
  logged = h.logged;
}

learned_ok : (u : View) (d : Disk) (c : ℕ) (v : Value) → DiskOk u d → LearnOk u (reach d.state) c v
    → DiskOk u (disk_learned d c v)
learned_ok u d c v h p =
    let len : reach (disk_learned d c v).state ≡ reach d.state + 1 = length-append d.state.log _ in
    record {
      votes = λ s b x at.
          (let o = h.votes s b x at in let le = o.slot in let lb = o.ballot in
          record {
            slot = omega arith;
            ballot = omega arith;
            last = λ e. absurd (omega arith);
            proposed = o.proposed;
          });
      standing = λ some. absurd (omega arith);
      learned =
          λ s b x at. elim
          (in_cons (record { slot = reach d.state; ballot = c; value = v }) d.learns
          (record { slot = s; ballot = b; value = x }) at) [
            | inl e ↦
                subst (λ (q : Placed). (LearnOk u q.slot q.ballot q.value) × (q.ballot ≤ max d.state.promise c) ×
                (q.slot < reach (disk_learned d c v).state)) e (p, omega arith, omega arith)
            | inr old ↦
                (let o = h.learned s b x old in (o.0, (let a = o.1 in omega arith), (let a = o.2 in omega arith)))
          ];
      logged = λ k x e. elim (get_push d.state.log (record { ballot = c; value = v }) x k e) [
        | inl old ↦ in_tail _ d.learns _ (h.logged k x old)
        | inr new ↦
            subst (λ (q : Cast). Contains (disk_learned d c v).learns
            (record { slot = k; ballot = q.ballot; value = q.value })) new.1 (rw new.0 (in_head _ d.learns))
      ];
    }

pub disk_kept : (w u : View) (r : ℕ) (d : Disk) (e : Option Entry) → Grows w u → u.disk r ≡ grown d e
    → EntryOk w r d e → DiskOk w d → DiskOk u (grown d e)
disk_kept w u r d None g is ok h = disk_on g d h
disk_kept w u r d (Some (entry.Boot version role index boot)) g is ok h = disk_on g d h
disk_kept w u r d (Some (entry.Epoch epoch)) g is ok h = disk_on g d h
disk_kept w u r d (Some (entry.Promise c)) g is ok h =
    let n = disk_on g d h in record {
      votes = λ s b x at.
          (let o = n.votes s b x at in
          record {
            slot = o.slot;
            ballot = (let a = o.ballot in omega arith);
            last = o.last;
            proposed = o.proposed;
          });
      standing = n.standing;
      learned = λ s b x e. (let o = n.learned s b x e in (o.0, (let a = o.1 in omega arith), o.2));
      logged = n.logged;
    }
disk_kept w u r d (Some (entry.Vote c v)) g is ok h =
    voted_ok u d c v (disk_on g d h) ok.0 (g.sent c (reach d.state) v ok.1)
disk_kept w u r d (Some (entry.Learn c v)) g is ok h =
    rw (after_learned d c v ok.room) (learned_ok u d c v (disk_on g d h) (record {
      chosen = chosen_on g ok.chosen;
      owner = elim ok.owner [
        | inl old ↦ g.learned (c % 5) (reach d.state) c v old
        | inr own ↦ rw (own, is) (in_learns d c v ok.room)
      ];
    }))

-- an Accept that was sent by now was sent before, or by this step
pub was_sent : (w u : View) (r : ℕ) (o : Out) → Moves w u r o → (b s : ℕ) (v : Value) → Proposed u b s v
    → Proposed w b s v ⊎ SendsAccept o.sends b s v
was_sent w u r o m b s v p =
    elim (Contains-append_cases w.sent o.sends (mail p.by (Accept b s v) p.to) (rw m.sent at p.at)) [
      | inl old ↦ inl (record { by = p.by; to = p.to; at = old })
      | inr new ↦ inr (record { by = p.by; to = p.to; at = new })
    ]

no_new : (w u : View) (r : ℕ) (o : Out) → Moves w u r o → All (MailOk u) o.sends → All (λ x. x.sender ≡ r) o.sends
    → (i : ℕ) → i ≢ r → NoNew w u i
no_new w u r o m ok from i ne b s v own p = elim (was_sent w u r o m b s v p) [
  | inl old ↦ old
  | inr new ↦ (let k : MailOk u (mail new.by (Accept b s v) new.to) = All-contains (MailOk u) o.sends _ ok new.at in
      let f : new.by ≡ r = All-contains (λ (x : Mail). x.sender ≡ r) o.sends _ from new.at in
      let e : b % 5 ≡ new.by = k.body.owner in
      absurd (ne (sym own ∙ e ∙ f)))
]

-- A step that shows this keeps what holds of every world.
pub keeps : (f : Option Value) (w u : View) (r : ℕ) (o : Out) → Moves w u r o → r < 5 → Inv w → Good f w u r o → Inv u
keeps f w u r o m r5 inv good =
    let g : Grows w u = grows w u r o m good.entry in
    record {
      mails = subst (λ (xs : List Mail). All (MailOk u) xs) (sym m.sent)
          (All-append (MailOk u) w.sent o.sends
          (All-weaker (MailOk w) (MailOk u) (λ x h. mail_on g x h) w.sent inv.mails) good.mails);
      unique = λ b s v x p q. elim (was_sent w u r o m b s v p) [
        | inr new ↦ good.unique b s v x new q
        | inl old ↦ elim (was_sent w u r o m b s x q) [
          | inr new ↦ sym (good.unique b s x v new p)
          | inl old2 ↦ inv.unique b s v x old old2
        ]
      ];
      disks = λ i i5. by_same i r
          (λ e. rw (e, m.disk_same) (disk_kept w u r (w.disk r) o.entry g m.disk_same good.entry (inv.disks r r5)))
          (λ ne. rw (m.disk_other i ne) (disk_on g (w.disk i) (inv.disks i i5)));
      mems = λ i i5. by_same i r
          (λ e. rw e (rw (m.disk_same, m.memory_same) good.stage))
          (λ ne. rw (m.disk_other i ne, m.memory_other i ne)
          (stage_on g i (no_new w u r o m good.mails good.senders i ne) (w.disk i) (w.memory i).leader
          (w.memory i).leader.stage (inv.mems i i5)));
    }
