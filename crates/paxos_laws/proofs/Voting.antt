-- What a replica does with an Accept, an Accepted and a Refuse is in order.
use Rattle.std.proofs.Common.{◌≡◌, ℕ, ◌+◌, ◌%◌, ◌<◌, ◌≤◌, inl, inr, Bool, true, not, ◌&&◌, ◌||◌, ◌==◌, nat_lt, List, [], ◌∷◌, length, Option, Some, None, refl, sym, ap, ◌∙◌, arith, subst, length-append, nat_le, length-set}
use Rattle.std.specs.Prelude.{if◌then◌else◌}
use Rattle.std.proofs.lemmas.Bool.Decides.{nat_tests}
use Rattle.wire_core.specs.declared.entry.Entry.TheVariants as entry
use Rattle.wire_core.specs.Same.{same_value}
use Rattle.paxos_spec.specs.declared.mail.Body.TheVariants.{Accepted, Refuse, Chosen, Fetch}
use Rattle.paxos_spec.specs.declared.stage.Stage.{Stage}
use Rattle.paxos_spec.specs.declared.stage.Stage.TheVariants.{Follower, Candidate, Catching, Inheriting, Primary}
use Rattle.paxos_spec.specs.declared.steps.AcceptStep.{AcceptStep}
use Rattle.paxos_spec.specs.declared.steps.Counted.{Counted}
use Rattle.paxos_spec.specs.declared.cast.Proposal.{Proposal}
use Rattle.paxos_spec.specs.Votes.{Value}
use Rattle.paxos_spec.specs.Five.{has, joined, how_many}
use Rattle.paxos_spec.specs.Acceptor.{reach, most_slots, stands}
use Rattle.paxos_spec.specs.Leader.{LeaderState, is_follower, is_leading, value_out, primary, with_counted, lead_accepted_of}
use Rattle.paxos_spec.specs.Replica.{Memory, with_leader, with_goal, down, accepted, on_accept, tallied_by, on_accepted, on_refuse}
use Rattle.paxos_spec.specs.Agreement.{View, Disk, after, HasVoted, IsChosen}
use Rattle.paxos_laws.specs.Facts.{Proposed, Owns, CountedOk, LeadingOk, StageOk, Inv}
use Rattle.paxos_laws.specs.Steps.{GoodOut, Here}
use Rattle.paxos_laws.proofs.Quorums.{by_if, three_flags, three_on, joined_or}
use Rattle.paxos_laws.proofs.Growth.{chosen_on, stage_on, choosable_back}
use Rattle.paxos_laws.proofs.Steps.{in_head, in_learns, after_learned, disk_learned}
use Rattle.paxos_laws.proofs.Plain.{and_true, After, good_plain, good_same, good_quiet, accept_of}
use Rattle.paxos_laws.proofs.Promising.{stage_here, nobody_set}

-- the same promise and log are as good
pub stage_like : (u : View) (r : ℕ) (d e : Disk) (l : LeaderState) (t : Stage)
    → (Owns r d l → e.state.promise ≡ l.ballot) → e.state.log ≡ d.state.log → StageOk u r d l t → StageOk u r e l t
stage_like u r d e l Follower p same h = tt
stage_like u r d e l Candidate p same h =
    record {
      owns = record { promise = p h.owns; owner = h.owns.owner; positive = h.owns.positive };
      none_yet = h.none_yet;
      tally = h.tally;
    }
stage_like u r d e l Catching p same h =
    record {
      owns = record { promise = p h.owns; owner = h.owns.owner; positive = h.owns.positive };
      none_yet = h.none_yet;
      pends = h.pends;
      source = h.source;
    }
stage_like u r d e l Inheriting p same h = leading_like (value_out l.out) h
  where
    leading_like : (o : Option Value) → LeadingOk u r d l o → LeadingOk u r e l o
    leading_like o h =
        record {
          owns = record { promise = p h.owns; owner = h.owns.owner; positive = h.owns.positive };
          pends = rw same h.pends;
          source = rw same h.source;
          only = rw same h.only;
          place = rw same h.place;
          size = h.size;
          counted = rw same h.counted;
        }
stage_like u r d e l Primary p same h =
    record {
      owns = record { promise = p h.owns; owner = h.owns.owner; positive = h.owns.positive };
      pends = rw same h.pends;
      source = rw same h.source;
      only = rw same h.only;
      place = rw same h.place;
      size = h.size;
      counted = rw same h.counted;
    }

pub accept_good : (w : View) (r from c s : ℕ) (v : Value) → Here w r → Proposed w c s v
    → GoodOut None w r (on_accept r (w.disk r).state (w.memory r) from c s v)
unfolding on_accept
accept_good w r from c s v h p =
    let d : Disk = w.disk r in let m : Memory = w.memory r in let l : LeaderState = m.leader in
    let stage : StageOk w r d l l.stage = stage_here w r h in
    by_if (λ (x : AcceptStep). GoodOut None w r (accepted r m from c s v x)) (nat_lt c d.state.promise)
    (λ _. good_same w r m (Refuse c d.state.promise) (from ∷ []) h.number h.inv tt tt stage)
    (λ high. by_if (λ (x : AcceptStep). GoodOut None w r (accepted r m from c s v x))
    (nat_lt s (reach d.state) || nat_le most_slots (reach d.state))
    (λ _. good_quiet w r m h.number h.inv stage)
    (λ not_low. by_if (λ (x : AcceptStep). GoodOut None w r (accepted r m from c s v x)) (nat_lt (reach d.state) s)
    (λ _. good_same w r (with_goal m s from) (Fetch (reach d.state)) (from ∷ []) h.number h.inv tt tt stage)
    (λ not_high.
    let here : s ≡ reach d.state = grind (arith, nat_tests) in
    let le : d.state.promise ≤ c = grind (arith, nat_tests) in
    by_if (λ (x : AcceptStep). GoodOut None w r (accepted r m from c s v x)) (stands d.state.vote c v)
    (λ again.
    let both : ((nat_lt 0 c && (d.state.vote.ballot == c)) ≡ true) × (same_value d.state.vote.value v ≡ true) =
    and_true _ _ again in
    let b : d.state.vote.ballot ≡ c =
    (let e : (d.state.vote.ballot == c) ≡ true = (and_true _ _ both.0).1 in grind (arith, nat_tests)) in
    let some : 0 < d.state.vote.ballot = (let pos : 0 < c = (accept_of w h.inv c s v p).positive in omega arith) in
    good_same w r m (Accepted c s) (from ∷ []) h.number h.inv tt
    (d.state.vote.value, rw (here, ← b) ((h.inv.disks r h.number).standing some)) stage)
    (λ new. good_plain w r (Some (entry.Vote c v)) (if nat_lt l.ballot c then down m else m) (Accepted c s)
    (from ∷ []) h.number h.inv tt (le, rw (← here) p)
    (λ u a. (
      (v, rw (a.disk_is, here) (in_head _ d.votes)),
      by_if (λ (n : Memory). StageOk u r (after d (entry.Vote c v)) n.leader n.leader.stage) (nat_lt l.ballot c)
          (λ below. tt)
          (λ own. stage_like u r d (after d (entry.Vote c v)) l l.stage
          (λ o. (let is = o.promise in grind (arith, nat_tests))) refl
          (stage_on a.grows r (λ b s v own p. a.same b s v p) d l l.stage stage)),
    ))))))

-- leading, whichever it is of the two
pub leading_at : (w : View) (r : ℕ) (d : Disk) (l : LeaderState) (t : Stage) → is_leading t ≡ true → StageOk w r d l t
    → (o : Option Value) × LeadingOk w r d l o
leading_at w r d l Inheriting e h = (value_out l.out, h)
leading_at w r d l Primary e h = (None, h)
leading_at w r d l Follower e h = absurd (cc)
leading_at w r d l Candidate e h = absurd (cc)
leading_at w r d l Catching e h = absurd (cc)

pub count_stage : (w : View) (r : ℕ) (d : Disk) (l : LeaderState) (is : List Bool) (t : Stage) → is_leading t ≡ true
    → StageOk w r d l t
    → length is ≡ 5 → ((i : ℕ) → has is i ≡ true → CountedOk w (reach d.state) l.ballot i) → StageOk w r d
    (with_counted l is) t
count_stage w r d l is Inheriting e h size all =
    record {
      owns = record { promise = h.owns.promise; owner = h.owns.owner; positive = h.owns.positive };
      pends = h.pends;
      source = h.source;
      only = h.only;
      place = h.place;
      size = size;
      counted = all;
    }
count_stage w r d l is Primary e h size all =
    record {
      owns = record { promise = h.owns.promise; owner = h.owns.owner; positive = h.owns.positive };
      pends = h.pends;
      source = h.source;
      only = h.only;
      place = h.place;
      size = size;
      counted = all;
    }
count_stage w r d l is Follower e h size all = absurd (cc)
count_stage w r d l is Candidate e h size all = absurd (cc)
count_stage w r d l is Catching e h size all = absurd (cc)

-- who is counted voted for what is outstanding
pub counted_value : (w : View) (r : ℕ) (d : Disk) (l : LeaderState) (o : Option Value) (v : Value) (i : ℕ) → Inv w
    → LeadingOk w r d l o → value_out l.out ≡ Some v → CountedOk w (reach d.state) l.ballot i → HasVoted w i
    (reach d.state) l.ballot v
counted_value w r d l o v i inv lead is c =
    let p : Proposed w l.ballot (reach d.state) c.value = ((inv.disks i c.number).votes _ _ _ c.voted).proposed in
    elim (lead.only (reach d.state) c.value p) [
      | inl low ↦ absurd (omega arith)
      | inr same ↦
          (let e : value_out l.out ≡ Some c.value = same.1 in let both : Some c.value ≡ Some v = sym e ∙ is in
          let eq : c.value ≡ v = cc in subst (λ (x : Value). HasVoted w i (reach d.state) l.ballot x) eq c.voted)
    ]

pub chosen_by : (w : View) (r : ℕ) (d : Disk) (l : LeaderState) (o : Option Value) (v : Value) (is : List Bool) → Inv w
    → LeadingOk w r d l o → value_out l.out ≡ Some v → length is ≡ 5 → 3 ≤ how_many is
    → ((i : ℕ) → has is i ≡ true → CountedOk w (reach d.state) l.ballot i) → IsChosen w (reach d.state) l.ballot v
chosen_by w r d l o v is inv lead out size three all =
    record {
      by_three = three_on (λ i i5 f. counted_value w r d l o v i inv lead out (all i f))
          (three_flags is size three);
    }

-- a leader that learns what it proposed is primary
pub leads_on : (w u : View) (r c : ℕ) (v : Value) (l : LeaderState) (o : Option Value)
    → reach (w.disk r).state < most_slots → After w u r (Some (entry.Learn c v)) → l.ballot ≡ c → LeadingOk w r
    (w.disk r) l o
    → LeadingOk u r (after (w.disk r) (entry.Learn c v)) (primary l) None
leads_on w u r c v l o room a same lead = rw (after_learned (w.disk r) c v room) (
    let d : Disk = w.disk r in
    let len : reach (disk_learned d c v).state ≡ reach d.state + 1 = length-append d.state.log _ in
    record {
      owns = record {
        promise = (let is = lead.owns.promise in omega arith);
        owner = lead.owns.owner;
        positive = lead.owns.positive;
      };
      pends = λ s b x lt le can. absurd
          (let q : (s ≡ reach d.state) × (o ≡ Some x) = lead.pends s b x lt (omega arith)
          (choosable_back a.grows can) in omega arith);
      source = λ x f. absurd (cc);
      only = λ s x p. inl
          (elim (lead.only s x (a.same l.ballot s x p))
          [ inl low ↦ omega arith | inr at ↦ (let e = at.0 in omega arith) ]);
      place = λ p f. absurd (cc);
      size = refl;
      counted = λ i f. nobody_set i f;
    })

-- what is outstanding is p, if anything is
pub accepted_of : (w : View) (r from c s : ℕ) (v : Value) (o : Option Proposal) → Here w r → (w.memory r).leader.out ≡ o
    → from < 5 → HasVoted w from s c v → reach (w.disk r).state < most_slots
    → GoodOut None w r (tallied_by r (w.memory r) c s (value_out o) (lead_accepted_of o (w.memory r).leader from c s))
accepted_of w r from c s v None h is from5 voted room = good_quiet w r (w.memory r) h.number h.inv (stage_here w r h)
accepted_of w r from c s v (Some p) h is from5 voted room =
    let d : Disk = w.disk r in let m : Memory = w.memory r in let l : LeaderState = m.leader in
    let stage : StageOk w r d l l.stage = stage_here w r h in
    by_if (λ (x : LeaderState × Counted). GoodOut None w r (tallied_by r m c s (Some p.value) x))
    (is_leading l.stage && (l.ballot == c) && (p.slot == s) && not (has l.counted from))
    (λ yes.
    let p3 : ((is_leading l.stage && (l.ballot == c) && (p.slot == s)) ≡ true) × (not (has l.counted from) ≡ true) =
    and_true _ _ yes in
    let p2 : ((is_leading l.stage && (l.ballot == c)) ≡ true) × ((p.slot == s) ≡ true) = and_true _ _ p3.0 in
    let p1 : (is_leading l.stage ≡ true) × ((l.ballot == c) ≡ true) = and_true _ _ p2.0 in
    let own : l.ballot ≡ c = (let e : (l.ballot == c) ≡ true = p1.1 in grind (arith, nat_tests)) in
    let lead : (o : Option Value) × LeadingOk w r d l o = leading_at w r d l l.stage p1.0 stage in
    let here : s ≡ reach d.state =
    (let e : (p.slot == s) ≡ true = p2.1 in let f : p.slot ≡ reach d.state = lead.1.place p is in
    grind (arith, nat_tests)) in
    let out : value_out l.out ≡ Some p.value = ap value_out is in
    let all : (i : ℕ) → has (joined l.counted from) i ≡ true → CountedOk w (reach d.state) l.ballot i =
    λ i f. elim (joined_or l.counted from i f) [
      | inl e ↦ rw e (record { number = from5; value = v; voted = rw (own, ← here) voted })
      | inr old ↦ lead.1.counted i old
    ] in
    let size : length (joined l.counted from) ≡ 5 = length-set l.counted from true ∙ lead.1.size in
    by_if (λ (x : LeaderState × Counted). GoodOut None w r (tallied_by r m c s (Some p.value) x))
    (nat_lt (how_many (joined l.counted from)) 3)
    (λ few. good_quiet w r (with_leader m (with_counted l (joined l.counted from))) h.number h.inv
    (count_stage w r d l (joined l.counted from) l.stage p1.0 stage size all))
    (λ enough.
    let mine : c % 5 ≡ r = rw own at lead.1.owns.owner in
    let chosen : IsChosen w (reach d.state) c p.value =
    rw own at
    (chosen_by w r d l lead.0 p.value (joined l.counted from) h.inv lead.1 out size
    (grind (arith, nat_tests)) all) in
    good_plain w r (Some (entry.Learn c p.value)) (with_leader m (primary l))
    (Chosen s c p.value) _ h.number h.inv tt (record { chosen = chosen; owner = inr mine; room = room })
    (λ u a. (
      record {
        chosen = chosen_on a.grows (rw here chosen);
        owner = rw (mine, a.disk_is, here)
            (in_learns d c p.value room);
      },
      leads_on w u r c p.value l lead.0 room a own lead.1,
    ))))
    (λ _. good_quiet w r m h.number h.inv stage)

pub accepted_good : (w : View) (r from c s : ℕ) (v : Value) → Here w r → from < 5 → HasVoted w from s c v
    → GoodOut None w r (on_accepted r (w.disk r).state (w.memory r) from c s)
unfolding on_accepted
accepted_good w r from c s v h from5 voted =
    by_if (GoodOut None w r) ((s == reach (w.disk r).state) && nat_lt (reach (w.disk r).state) most_slots)
    (λ next.
    let both : ((s == reach (w.disk r).state) ≡ true) × (nat_lt (reach (w.disk r).state) most_slots ≡ true) =
    and_true _ _ next in
    let room : reach (w.disk r).state < most_slots =
    (let e : nat_lt (reach (w.disk r).state) most_slots ≡ true = both.1 in grind (arith, nat_tests)) in
    accepted_of w r from c s v (w.memory r).leader.out h refl from5 voted room)
    (λ _. good_quiet w r (w.memory r) h.number h.inv (stage_here w r h))

pub refuse_good : (w : View) (r c p : ℕ) → Here w r → GoodOut None w r (on_refuse (w.memory r) c p)
unfolding on_refuse
refuse_good w r c p h =
    by_if (GoodOut None w r)
    (not (is_follower (w.memory r).leader.stage) && ((w.memory r).leader.ballot == c) && nat_lt c p)
    (λ _. good_quiet w r _ h.number h.inv tt)
    (λ _. good_quiet w r (w.memory r) h.number h.inv (stage_here w r h))
