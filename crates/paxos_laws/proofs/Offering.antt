-- A candidacy and an offer are in order.
use Rattle.std.proofs.Common.{◌≡◌, ℕ, ◌%◌, ◌^◌, ◌<◌, ◌≤◌, inl, inr, max, true, ◌&&◌, nat_lt, Option, Some, None, refl, sym, ap, ◌∙◌, arith, subst}
use Rattle.std.specs.Prelude.{Contains}
use Rattle.std.proofs.lemmas.List.Elements.{Contains-append_right}
use Rattle.wire_core.specs.declared.entry.Entry.TheVariants as entry
use Rattle.paxos_spec.specs.declared.mail.Body.{Body}
use Rattle.paxos_spec.specs.declared.mail.Body.TheVariants.{Prepare, Accept}
use Rattle.paxos_spec.specs.declared.stage.Stage.TheVariants.{Primary}
use Rattle.paxos_spec.specs.declared.cast.Proposal.{Proposal}
use Rattle.paxos_spec.specs.Votes.{Value}
use Rattle.paxos_spec.specs.Five.{five, next_ballot}
use Rattle.paxos_spec.specs.Acceptor.{reach, most_slots}
use Rattle.paxos_spec.specs.Leader.{LeaderState, is_primary, is_idle, value_out, candidate, proposing}
use Rattle.paxos_spec.specs.Replica.{Memory, with_leader, mail, to_all, campaigned_by, on_campaign, on_offer}
use Rattle.paxos_spec.specs.Agreement.{View, Disk}
use Rattle.paxos_laws.specs.Facts.{Proposed, AcceptOk, LeadingOk, StageOk}
use Rattle.paxos_laws.specs.Steps.{GoodOut, Here}
use Rattle.paxos_laws.proofs.Quorums.{by_if}
use Rattle.paxos_laws.proofs.Growth.{pends_on, choosable_back}
use Rattle.paxos_laws.proofs.Plain.{unoffered, and_true, good_one, good_plain, good_quiet, accept_of}
use Rattle.paxos_laws.proofs.Promising.{stage_here, primary_at, idle_at, nobody_set, no_tally_ok, slot_is}

pub next_above : (above r : ℕ) → above < next_ballot above r
next_above above r = omega arith

pub next_owner : (above r : ℕ) → r < 5 → next_ballot above r % 5 ≡ r
next_owner above r r5 = omega arith

-- A candidacy, at any ballot of the replica's own above its promise.
pub candidacy_good : (w : View) (r b : ℕ) (m : Memory) → Here w r → (w.disk r).state.promise < b → b % 5 ≡ r
    → GoodOut None w r
    (record { entry = Some (entry.Promise b); memory = with_leader m (candidate b); sends = to_all r (Prepare b) })
candidacy_good w r b m h up own =
    good_plain w r (Some (entry.Promise b)) (with_leader m (candidate b)) (Prepare b) five h.number h.inv tt tt
    (λ u a. (
      tt,
      record {
        owns = record { promise = omega arith; owner = own; positive = omega arith };
        none_yet = λ s x p.
            (let old : Proposed w b s x = a.same b s x p in
            let ok : AcceptOk w old.by b s x = accept_of w h.inv b s x old in
            let by : old.by ≡ r = sym ok.owner ∙ own in
            let low : b ≤ (w.disk r).state.promise = rw by at ok.kept in
            omega arith);
        tally = no_tally_ok u b;
      },
    ))

pub campaign_good : (w : View) (r : ℕ) → Here w r → GoodOut None w r (on_campaign r (w.disk r).state (w.memory r))
unfolding on_campaign
campaign_good w r h =
    let m : Memory = w.memory r in
    let top : ℕ = max (w.disk r).state.promise m.seen in
    let up : top < next_ballot top r = next_above top r in
    by_if (GoodOut None w r) (is_primary m.leader.stage)
    (λ _. good_quiet w r m h.number h.inv (stage_here w r h))
    (λ _. by_if (λ (x : LeaderState × Option ℕ). GoodOut None w r (campaigned_by r m x))
    (nat_lt (next_ballot top r) (2 ^ 64))
    (λ _. candidacy_good w r (next_ballot top r) m h (omega arith) (next_owner top r h.number))
    (λ _. good_quiet w r m h.number h.inv (stage_here w r h)))

pub first_sent : (r : ℕ) (body : Body) → Contains (to_all r body) (mail r body 0)
first_sent r body = (0, omega arith, refl)

pub not_out : {G : Type 0} → (o : Option Proposal) (x : Value) → o ≡ None → value_out o ≡ Some x → G
not_out o x idle e = (let f : None ≡ Some x = sym (ap value_out idle) ∙ e in absurd (cc))

pub offer_good : (w : View) (r : ℕ) (v : Value) → Here w r
    → GoodOut (Some v) w r (on_offer r (w.disk r).state (w.memory r) v)
unfolding on_offer
offer_good w r v h =
    let d : Disk = w.disk r in let m : Memory = w.memory r in let l : LeaderState = m.leader in
    by_if (GoodOut (Some v) w r) (is_primary l.stage && is_idle l.out && nat_lt (reach d.state) most_slots)
    (λ yes.
    let p2 : ((is_primary l.stage && is_idle l.out) ≡ true) × (nat_lt (reach d.state) most_slots ≡ true) =
    and_true _ _ yes in
    let p1 : (is_primary l.stage ≡ true) × (is_idle l.out ≡ true) = and_true _ _ p2.0 in
    let is : l.stage ≡ Primary = primary_at l.stage p1.0 in
    let idle : l.out ≡ None = idle_at l.out p1.1 in
    let lead : LeadingOk w r d l None = subst (StageOk w r d l) is (stage_here w r h) in
    good_one (Some v) w r None (with_leader m (proposing Primary l (reach d.state) v))
    (Accept l.ballot (reach d.state) v) five h.number h.inv tt (λ b s x e. inl (let val : v ≡ x = cc in cc))
    (λ u n. record {
      body_ok = record {
        safe = λ a x lt can.
            (let q : (reach d.state ≡ reach d.state) × (None ≡ Some x) = lead.pends (reach d.state) a x lt
            (omega arith) (choosable_back n.grows can) in let f : None ≡ Some x = q.1 in absurd (cc));
        owner = lead.owns.owner;
        kept = rw n.disk_is (let o = lead.owns.promise in omega arith);
        positive = lead.owns.positive;
      };
      one = λ b s x y f p. elim (n.new b s y p) [
        | inl old ↦ absurd (let bb : l.ballot ≡ b = cc in let ss : reach d.state ≡ s = cc in
            elim (lead.only s y (rw bb old)) [ inl low ↦ omega arith | inr at ↦ not_out l.out y idle at.1 ])
        | inr new ↦ cc
      ];
      stage = record {
        owns = record { promise = lead.owns.promise; owner = lead.owns.owner; positive = lead.owns.positive };
        pends = pends_on n.grows l.ballot (reach d.state) None lead.pends;
        source =
            λ x f. (
              l.ballot,
              record {
                by = r;
                to = 0;
                at = (let val : v ≡ x = cc in
                    rw (n.sent, ← val)
                    (Contains-append_right w.sent (to_all r (Accept l.ballot (reach d.state) v)) _
                    (first_sent r (Accept l.ballot (reach d.state) v))));
              },
            );
        only = λ s x p. elim (n.new l.ballot s x p) [
          | inl old ↦ elim (lead.only s x old) [ inl low ↦ inl low | inr at ↦ not_out l.out x idle at.1 ]
          | inr new ↦ inr ((let f : reach d.state ≡ s = cc in sym f), cc)
        ];
        place = λ p f. sym (slot_is _ p f);
        size = refl;
        counted = λ i f. nobody_set i f;
      };
    }))
    (λ _. unoffered (Some v) w r _ (good_quiet w r m h.number h.inv (stage_here w r h)))
