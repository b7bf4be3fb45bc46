-- Steps that a node has besides: it sends an outstanding value again, steps down, remembers, or opens again.
use Rattle.std.proofs.Common.{◌≡◌, inl, inr, ℕ, Some, None, sym, arith, subst, ◌≤◌, ◌<◌, Option, ◌⊎◌, List, [], ap, ◌∙◌}
use Rattle.wire_core.specs.declared.entry.Entry.{Entry}
use Rattle.paxos_spec.specs.declared.mail.Body.{Body}
use Rattle.paxos_spec.specs.declared.mail.Body.TheVariants.{Accept}
use Rattle.paxos_spec.specs.declared.stage.Stage.TheVariants.{Follower}
use Rattle.paxos_spec.specs.Votes.{Value}
use Rattle.paxos_spec.specs.Five.{five}
use Rattle.paxos_spec.specs.Acceptor.{reach}
use Rattle.paxos_spec.specs.Leader.{LeaderState, value_out}
use Rattle.paxos_spec.specs.Replica.{Memory, new_memory, quiet, to_all, Out}
use Rattle.paxos_spec.specs.Agreement.{View, Disk, IsPrimary, IsChosen, Seal}
use Rattle.paxos_laws.specs.Facts.{BodyOk, LeadingOk, StageOk, Proposed}
use Rattle.paxos_laws.specs.Steps.{Moves, Grows, EntryOk, Good, GoodOut, Here, IsPlain, one_body}
use Rattle.paxos_laws.proofs.Quorums.{three_on}
use Rattle.paxos_laws.proofs.Growth.{pends_on, choosable_back, counted_on, source_on}
use Rattle.paxos_laws.proofs.Steps.{was_sent}
use Rattle.paxos_laws.proofs.Plain.{good_one, good_same, good_quiet, good_silent}

-- A primary sends what is outstanding again.
pub resend_good : (w : View) (r : ℕ) (v : Value) → Here w r → IsPrimary w r → value_out (w.memory r).leader.out ≡ Some v
    → GoodOut None w r
    (record {
      entry = None;
      memory = w.memory r;
      sends = to_all r (Accept (w.memory r).leader.ballot (reach (w.disk r).state) v);
    })
resend_good w r v h is out =
    let d : Disk = w.disk r in let m : Memory = w.memory r in let l : LeaderState = m.leader in
    let stage : StageOk w r d l l.stage = h.inv.mems r h.number in
    let lead : LeadingOk w r d l None = subst (StageOk w r d l) is stage in
    good_one None w r None m (Accept l.ballot (reach d.state) v) five h.number h.inv tt
    (λ b s x e. inr
    (let slot : reach d.state ≡ s = cc in let val : v ≡ x = cc in rw (← slot, ← val) (lead.source v out)))
    (λ u n. record {
      body_ok = record {
        safe = λ a x lt can.
            (let q : (reach d.state ≡ reach d.state) × (None ≡ Some x) = lead.pends (reach d.state) a x lt
            (omega arith) (choosable_back n.grows can) in let f : None ≡ Some x = q.1 in absurd (cc));
        owner = lead.owns.owner;
        kept = rw n.disk_is (let o = lead.owns.promise in omega arith);
        positive = lead.owns.positive;
      };
      one = λ b s x y f p. elim (n.new b s y p) [
        | inl old ↦ (let bb : l.ballot ≡ b = cc in let ss : reach d.state ≡ s = cc in
            elim (lead.only s y (rw bb old)) [
              | inl low ↦ absurd (omega arith)
              | inr at ↦
                  (let g : value_out l.out ≡ Some y = at.1 in let both : Some v ≡ Some y = sym out ∙ g in
                  let val : v ≡ x = cc in cc)
            ])
        | inr new ↦ cc
      ];
      stage = subst (StageOk u r d l) (sym is) (record {
        owns = record { promise = lead.owns.promise; owner = lead.owns.owner; positive = lead.owns.positive };
        pends = pends_on n.grows l.ballot (reach d.state) None lead.pends;
        source = source_on n.grows (reach d.state) (value_out l.out) lead.source;
        only = λ s x p. elim (n.new l.ballot s x p) [
          | inl old ↦ lead.only s x old
          | inr new ↦ inr ((let f : reach d.state ≡ s = cc in sym f), (let f : v ≡ x = cc in out ∙ ap Some f))
        ];
        place = lead.place;
        size = lead.size;
        counted = λ i f. counted_on n.grows (reach d.state) l.ballot i (lead.counted i f);
      });
    })

-- It remembers something else, and says what needs no proof or has it.
pub says_good : (w : View) (r : ℕ) (m : Memory) (body : Body) (ts : List ℕ) → Here w r
    → m.leader ≡ (w.memory r).leader → IsPlain body → BodyOk w r body → GoodOut None w r (one_body r None m body ts)
says_good w r m body ts h same plain ok =
    good_same w r m body ts h.number h.inv plain ok
    (subst (λ (l : LeaderState). StageOk w r (w.disk r) l l.stage) (sym same) (h.inv.mems r h.number))

-- It remembers something else, and says nothing.
pub hearing_good : (w : View) (r : ℕ) (m : Memory) → Here w r → m.leader ≡ (w.memory r).leader
    → GoodOut None w r (quiet m)
hearing_good w r m h same = good_quiet w r m h.number h.inv
    (subst (λ (l : LeaderState). StageOk w r (w.disk r) l l.stage) (sym same) (h.inv.mems r h.number))

-- It steps down, and remembers what it likes.
pub down_good : (w : View) (r : ℕ) (m : Memory) → Here w r → m.leader.stage ≡ Follower → GoodOut None w r (quiet m)
down_good w r m h is = good_quiet w r m h.number h.inv (subst (StageOk w r (w.disk r) m.leader) (sym is) tt)

-- It goes down in a step, of which the entry alone is kept; with no entry, or that of an opening, it only opens again.
pub reopened_good : (w : View) (r : ℕ) (e : Option Entry) → Here w r → EntryOk w r (w.disk r) e
    → GoodOut None w r (record { entry = e; memory = new_memory; sends = [] })
reopened_good w r e h ok = good_silent w r e new_memory h.number h.inv ok (λ u a. tt)

-- A seal lasts, and holds where the length grows.
pub seal_on : {w u : View} → Grows w u → (b l k : ℕ) → l ≤ k → Seal w b l → Seal u b k
seal_on g b l k le h s c v lt high can = h s c v lt (omega arith) (choosable_back g can)

-- what is chosen below the ballot of a seal stands below its length
pub seal_law : (w : View) (b l s c : ℕ) (v : Value) → Seal w b l → IsChosen w s c v → c < b → s < l
seal_law w b l s c v h chosen lt = elim (low_or s l) [
  | inl low ↦ low
  | inr high ↦ absurd (h s c v lt high (record { by_three = three_on (λ i i5 p. inl p) chosen.by_three }))
]
  where
    low_or : (a b : ℕ) → (a < b) ⊎ (b ≤ a)
    low_or a b = grind arith

-- Values only travel: one that is proposed by then was offered in this step, or was proposed at the slot before.
pub travels : (f : Option Value) (w u : View) (r : ℕ) (o : Out) → Moves w u r o → Good f w u r o
    → (b s : ℕ) (v : Value) → Proposed u b s v → (f ≡ Some v) ⊎ ((c : ℕ) × Proposed w c s v)
travels f w u r o m good b s v p = elim (was_sent w u r o m b s v p) [
  | inl old ↦ inr (b, old)
  | inr new ↦ good.origin b s v new
]

-- So what holds of each value that was proposed, and of what is offered, holds of each that is proposed by then.
pub values_travel : (P : Value → Type 0) (f : Option Value) (w u : View) (r : ℕ) (o : Out) → Moves w u r o
    → Good f w u r o
    → ((v : Value) → f ≡ Some v → P v) → ((b s : ℕ) (v : Value) → Proposed w b s v → P v) → (b s : ℕ)
    (v : Value) → Proposed u b s v → P v
values_travel P f w u r o m good offered h b s v p =
    elim (travels f w u r o m good b s v p) [ inl e ↦ offered v e | inr was ↦ h was.0 s v was.1 ]

-- what grows on and on has grown
pub stays_as_it_is : (w : View) → Grows w w
stays_as_it_is w = record {
  promise = λ i. omega arith;
  reach = λ i. omega arith;
  learned = λ i s b v h. h;
  voted = λ i s b v h. h;
  fresh = λ i s b v h. inl h;
  sent = λ b s v p. p;
}

pub grows_on : (w u v : View) → Grows w u → Grows u v → Grows w v
grows_on w u v g h = record {
  promise = λ i. (let a = g.promise i in let b = h.promise i in omega arith);
  reach = λ i. (let a = g.reach i in let b = h.reach i in omega arith);
  learned = λ i s b x k. h.learned i s b x (g.learned i s b x k);
  voted = λ i s b x k. h.voted i s b x (g.voted i s b x k);
  fresh = λ i s b x k. elim (h.fresh i s b x k) [
    | inl old ↦ g.fresh i s b x old
    | inr high ↦ inr (let a = g.promise i in omega arith)
  ];
  sent = λ b s x p. h.sent b s x (g.sent b s x p);
}
