-- What doesn't count is a step that changes nothing.
use Rattle.std.proofs.Common.{◌≡◌, ℕ, Bool, true, false, not, ◌&&◌, nat_lt, ◌==◌, max, if◌then◌else◌, Option, Some}
use Rattle.std.proofs.Common.{None, is_some, refl, sym, ap, slice_get}
use Rattle.paxos_spec.specs.declared.mail.Body.{Body}
use Rattle.paxos_spec.specs.declared.mail.Body.TheVariants.{Prepare, Promise, Accept, Accepted, Refuse, Chosen, Fetch}
use Rattle.paxos_spec.specs.declared.steps.AcceptStep.{AcceptStep}
use Rattle.paxos_spec.specs.declared.steps.AcceptStep.TheVariants as accept
use Rattle.paxos_spec.specs.declared.steps.ChosenStep.{ChosenStep}
use Rattle.paxos_spec.specs.declared.steps.ChosenStep.TheVariants as chosen
use Rattle.paxos_spec.specs.declared.steps.LeadStep.{LeadStep}
use Rattle.paxos_spec.specs.declared.steps.LeadStep.TheVariants as lead
use Rattle.paxos_spec.specs.declared.steps.Counted.{Counted}
use Rattle.paxos_spec.specs.declared.steps.Counted.TheVariants as counted
use Rattle.paxos_spec.specs.declared.cast.Cast.{Cast}
use Rattle.paxos_spec.specs.Votes.{Value, cast}
use Rattle.paxos_spec.specs.Five.{has, joined, how_many}
use Rattle.paxos_spec.specs.Acceptor.{reach, accept_step, chosen_step}
use Rattle.paxos_spec.specs.Leader.{LeaderState, Tally, tallied, with_tally, arrive, third_promise, lead_promise}
use Rattle.paxos_spec.specs.Leader.{is_candidate, is_primary, campaign, lead_accepted, value_out}
use Rattle.paxos_spec.specs.Replica.{Memory, Out, quiet, accepted, learned, fetched, led_by, tallied_by, campaigned_by}
use Rattle.paxos_spec.specs.Replica.{is_next, may_propose, on_promise, on_accept, on_accepted, on_refuse, on_chosen}
use Rattle.paxos_spec.specs.Replica.{on_message, on_campaign, on_offer}
use Rattle.paxos_spec.specs.Events.{Replica, if_counts, or_quiet, step_at, step_at_campaign, step_at_offer, lead_counts}
use Rattle.paxos_spec.specs.Events.{accept_counts, chosen_counts, is_counted, refuse_counts}

-- what counts is its step, and what doesn't has to be quiet
counted_or_quiet : (b : Bool) (m : Memory) (o : Out) → (b ≡ false → o ≡ quiet m) → or_quiet m (if_counts b o) ≡ o
counted_or_quiet true m o f = refl
counted_or_quiet false m o f = sym (f refl)

-- a choice whose test fails
else_of : {A : Type 0} (b : Bool) (x y : A) → b ≡ false → (if b then x else y) ≡ y
else_of true x y e = absurd (cc)
else_of false x y e = refl

-- the third promise counts
arrive_counts : (l : LeaderState) (at : ℕ) (pending : Option Value) → lead_counts (arrive l at pending).1 ≡ true
arrive_counts l at None = refl
arrive_counts l at (Some value) = refl

third_counts : (b : Bool) (l : LeaderState) (t : Tally) (x : LeaderState) (own : ℕ) (pending : Option Value)
    → lead_counts (if b then (x, lead.Catch t.source t.longest) else arrive l own pending).1 ≡ true
third_counts true l t x own pending = refl
third_counts false l t x own pending = arrive_counts l own pending

-- a Promise that doesn't count leaves the leader as it is
same_leader : (a b : Bool) (l m : LeaderState) (x : LeaderState × LeadStep) → lead_counts x.1 ≡ true
    → lead_counts (if a then (if b then (m, lead.More) else x) else (l, lead.Late)).1 ≡ false
    → (if a then (if b then (m, lead.More) else x) else (l, lead.Late)) ≡ (l, lead.Late)
same_leader true true l m x counts e = absurd (cc)
same_leader true false l m x counts e = absurd (cc)
same_leader false b l m x counts e = refl

late_lead : (l : LeaderState) (from ballot length : ℕ) (vote : Cast) (own : ℕ)
    → lead_counts (lead_promise l from ballot length vote own).1 ≡ false
    → lead_promise l from ballot length vote own ≡ (l, lead.Late)
late_lead l from ballot length vote own e = same_leader
    (is_candidate l.stage && (l.ballot == ballot) && not (has l.tally.tellers from))
    (nat_lt (how_many (joined l.tally.tellers from)) 3)
    l (with_tally l (tallied l.tally from length vote))
    (third_promise l (tallied l.tally from length vote) own)
    (third_counts (nat_lt own (tallied l.tally from length vote).longest) l (tallied l.tally from length vote) _ own _)
    e

late_accept : (me : ℕ) (m : Memory) (from ballot slot : ℕ) (value : Value) (s : AcceptStep) → accept_counts s ≡ false
    → accepted me m from ballot slot value s ≡ quiet m
late_accept me m from ballot slot value (accept.Refuse promised) e = absurd (cc)
late_accept me m from ballot slot value accept.Late e = refl
late_accept me m from ballot slot value (accept.Behind length) e = absurd (cc)
late_accept me m from ballot slot value accept.Again e = absurd (cc)
late_accept me m from ballot slot value accept.Voted e = absurd (cc)

late_chosen : (me : ℕ) (r : Replica) (from slot ballot : ℕ) (value : Value) (s : ChosenStep) → chosen_counts s ≡ false
    → learned me r.acceptor r.memory from slot ballot value s ≡ quiet r.memory
late_chosen me r from slot ballot value chosen.Late e = refl
late_chosen me r from slot ballot value (chosen.Behind length) e = absurd (cc)
late_chosen me r from slot ballot value chosen.Learned e = absurd (cc)

late_fetch : (me : ℕ) (m : Memory) (from slot : ℕ) (x : Option Cast) → is_some x ≡ false
    → fetched me m from slot x ≡ quiet m
late_fetch me m from slot None e = refl
late_fetch me m from slot (Some x) e = absurd (cc)

not_counted : (me : ℕ) (m : Memory) (ballot slot : ℕ) (out : Option Value) (l : LeaderState) (c : Counted)
    → is_counted c ≡ false
    → tallied_by me m ballot slot out (l, c) ≡ quiet m
not_counted me m ballot slot out l counted.Late e = refl
not_counted me m ballot slot out l counted.More e = absurd (cc)
not_counted me m ballot slot out l counted.Chosen e = absurd (cc)

late_accepted : (b : Bool) (me : ℕ) (m : Memory) (ballot slot : ℕ) (out : Option Value) (x : LeaderState × Counted)
    → (b && is_counted x.1) ≡ false
    → (if b then tallied_by me m ballot slot out x else quiet m) ≡ quiet m
late_accepted true me m ballot slot out x e = not_counted me m ballot slot out x.0 x.1 e
late_accepted false me m ballot slot out x e = refl

no_ballot : (me : ℕ) (m : Memory) (l : LeaderState) (ballot : Option ℕ) → is_some ballot ≡ false
    → campaigned_by me m (l, ballot) ≡ quiet m
no_ballot me m l None e = refl
no_ballot me m l (Some ballot) e = absurd (cc)

no_campaign : (b : Bool) (me : ℕ) (m : Memory) (x : LeaderState × Option ℕ) → (not b && is_some x.1) ≡ false
    → (if b then quiet m else campaigned_by me m x) ≡ quiet m
no_campaign true me m x e = refl
no_campaign false me m x e = no_ballot me m x.0 x.1 e

pub message_steps : (me from : ℕ) (r : Replica) (body : Body)
    → or_quiet r.memory (step_at me r from body) ≡ on_message me r.acceptor r.memory from body
unfolding on_promise on_accept on_accepted on_refuse on_chosen
message_steps me from r (Prepare ballot) = refl
message_steps me from r (Promise ballot length vote value) = counted_or_quiet _ r.memory _
    (λ e. ap (led_by me (reach r.acceptor) r.memory)
    (late_lead r.memory.leader from ballot length (cast vote value) (reach r.acceptor) e))
message_steps me from r (Accept ballot slot value) = counted_or_quiet _ r.memory _
    (late_accept me r.memory from ballot slot value (accept_step r.acceptor ballot slot value))
message_steps me from r (Accepted ballot slot) = counted_or_quiet _ r.memory _
    (late_accepted (is_next r.acceptor slot) me r.memory ballot slot
    (value_out r.memory.leader.out) (lead_accepted r.memory.leader from ballot slot))
message_steps me from r (Refuse ballot promised) = counted_or_quiet _ r.memory _
    (else_of (refuse_counts r.memory ballot promised) _ _)
message_steps me from r (Chosen slot ballot value) = counted_or_quiet _ r.memory _
    (late_chosen me r from slot ballot value (chosen_step r.acceptor slot))
message_steps me from r (Fetch slot) = counted_or_quiet _ r.memory _
    (late_fetch me r.memory from slot (slice_get r.acceptor.log slot))

pub campaign_steps : (me : ℕ) (r : Replica)
    → or_quiet r.memory (step_at_campaign me r) ≡ on_campaign me r.acceptor r.memory
unfolding on_campaign
campaign_steps me r = counted_or_quiet _ r.memory _
    (no_campaign (is_primary r.memory.leader.stage) me r.memory
    (campaign r.memory.leader (max r.acceptor.promise r.memory.seen) me))

pub offer_steps : (me : ℕ) (r : Replica) (value : Value)
    → or_quiet r.memory (step_at_offer me r value) ≡ on_offer me r.acceptor r.memory value
unfolding on_offer
offer_steps me r value = counted_or_quiet _ r.memory _ (else_of (may_propose r.acceptor r.memory.leader) _ _)
