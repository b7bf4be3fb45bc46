-- Rows of the agreement, by the step that the event comes to.
use Rattle.std.proofs.Common.{◌≡◌, refl, sym, ap, ◌∙◌, ℕ, zero, suc, Bool, true, false, not, ◌&&◌, List, [], ◌∷◌}
use Rattle.std.proofs.Common.{length, nat_lt, Option, Some, None, arith}
use Rattle.std.specs.Prelude.{if◌then◌else◌, max, ◌==◌, is_some, slice_get}
use Rattle.std.proofs.lemmas.Bool.Decides.{nat_tests}
use Rattle.wire_core.specs.declared.cause.DropCause.TheVariants.{Late}
use Rattle.vip_config.specs.declared.parts.ConfigParts.{ConfigParts}
use Rattle.paxos_spec.specs.declared.cast.Cast.{Cast}
use Rattle.paxos_spec.specs.declared.steps.AcceptStep.{AcceptStep}
use Rattle.paxos_spec.specs.declared.steps.AcceptStep.TheVariants as accept
use Rattle.paxos_spec.specs.declared.steps.ChosenStep.{ChosenStep}
use Rattle.paxos_spec.specs.declared.steps.ChosenStep.TheVariants as chosen
use Rattle.paxos_spec.specs.declared.steps.LeadStep.{LeadStep}
use Rattle.paxos_spec.specs.declared.steps.LeadStep.TheVariants as lead
use Rattle.paxos_spec.specs.declared.steps.Counted.{Counted}
use Rattle.paxos_spec.specs.declared.steps.Counted.TheVariants as tally
use Rattle.paxos_spec.specs.Votes.{Value}
use Rattle.paxos_spec.specs.Acceptor.{reach, accept_step, chosen_step}
use Rattle.paxos_spec.specs.declared.cast.Proposal.{Proposal}
use Rattle.paxos_spec.specs.Leader.{LeaderState, lead_promise, lead_accepted_of, lead_accepted, value_out, is_leading}
use Rattle.paxos_spec.specs.Leader.{is_primary, primary, with_counted, campaign}
use Rattle.paxos_spec.specs.Five.{has, joined, how_many}
use Rattle.paxos_spec.specs.Replica.{Memory, Out, is_next, tallied_by, tallied_out, on_fetch, campaigned_by}
use Rattle.paxos_spec.specs.Replica.{on_campaign}
use Rattle.paxos_spec.specs.Replica as paxos
use Rattle.paxos_spec.specs.Events.{if_counts, lead_counts, accept_counts, is_counted, chosen_counts, step_at_promise}
use Rattle.paxos_spec.specs.Events.{step_at_accept, step_at_accepted, step_at_chosen, step_at_fetch, step_at_campaign}
use Rattle.paxos_spec.specs.Events as events
use Rattle.node_spec.specs.Turns.{Turn, drop_turn}
use Rattle.manager_spec.specs.Manager.{Manager, agrees, hears}
use Rattle.manager_spec.specs.Proposal.{Half, stops, goes_on}
use Rattle.manager_spec.specs.Leading.{is_late_promise, on_promise, on_lead}
use Rattle.manager_spec.specs.Voting.{is_late_accept, on_accept, completes, counts, on_accepted, is_late_chosen}
use Rattle.manager_spec.specs.Voting.{on_chosen, on_fetched}
use Rattle.manager_core.specs.Seen.{part}
use Rattle.manager_spec.specs.Clock.{runs_for}
use Rattle.manager_core.specs.Rows.{counted, counted_heard, tallied, ran}

promise_by : (cfg : ConfigParts) (r : Manager) (s : LeadStep) (o : Out)
    → (if is_late_promise s then drop_turn r Late else agrees cfg r o) ≡ counted cfg r (if_counts (lead_counts s) o)
unfolding counted
promise_by cfg r lead.Late o = refl
promise_by cfg r lead.More o = refl
promise_by cfg r (lead.Catch from slot) o = refl
promise_by cfg r lead.Inherit o = refl
promise_by cfg r lead.Ready o = refl

pub promise_row : (cfg : ConfigParts) (r : Manager) (from ballot length : ℕ) (vote : Cast)
    → on_promise cfg r from ballot length vote
    ≡ counted cfg r (step_at_promise r.index (part r) from ballot length vote)
unfolding on_promise
promise_row cfg r from ballot length vote =
    promise_by cfg r (lead_promise r.memory.leader from ballot length vote (reach r.acceptor)).1 _

accept_by : (cfg : ConfigParts) (r : Manager) (s : AcceptStep) (o : Out)
    → (if is_late_accept s then drop_turn r Late else hears (agrees cfg r o))
    ≡ counted_heard cfg r (if_counts (accept_counts s) o)
unfolding counted_heard
accept_by cfg r (accept.Refuse promised) o = refl
accept_by cfg r accept.Late o = refl
accept_by cfg r (accept.Behind length) o = refl
accept_by cfg r accept.Again o = refl
accept_by cfg r accept.Voted o = refl

pub accept_row : (cfg : ConfigParts) (r : Manager) (from ballot slot : ℕ) (value : Value)
    → on_accept cfg r from ballot slot value
    ≡ counted_heard cfg r (step_at_accept r.index (part r) from ballot slot value)
unfolding on_accept
accept_row cfg r from ballot slot value = accept_by cfg r (accept_step r.acceptor ballot slot value) _

chosen_by : (cfg : ConfigParts) (r : Manager) (s : ChosenStep) (o : Out)
    → (if is_late_chosen s then drop_turn r Late else hears (agrees cfg r o))
    ≡ counted_heard cfg r (if_counts (chosen_counts s) o)
unfolding counted_heard
chosen_by cfg r chosen.Late o = refl
chosen_by cfg r (chosen.Behind length) o = refl
chosen_by cfg r chosen.Learned o = refl

pub chosen_row : (cfg : ConfigParts) (r : Manager) (from slot ballot : ℕ) (value : Value)
    → on_chosen cfg r from slot ballot value
    ≡ counted_heard cfg r (step_at_chosen r.index (part r) from slot ballot value)
unfolding on_chosen
chosen_row cfg r from slot ballot value = chosen_by cfg r (chosen_step r.acceptor slot) _

is_within : {A : Type 0} (xs : List A) (i : ℕ) → is_some (slice_get xs i) ≡ nat_lt i (length xs)
is_within [] zero = refl
is_within [] (suc i) = let e : false ≡ nat_lt (suc i) 0 = grind (arith, nat_tests) in e
is_within (x ∷ xs) zero = let e : true ≡ nat_lt 0 (suc (length xs)) = grind (arith, nat_tests) in e
is_within (x ∷ xs) (suc i) =
    let e : nat_lt i (length xs) ≡ nat_lt (suc i) (suc (length xs)) = grind (arith, nat_tests) in
    is_within xs i ∙ e

fetch_by : (cfg : ConfigParts) (r : Manager) (b : Bool) (o : Out)
    → (if b then agrees cfg r o else drop_turn r Late) ≡ counted cfg r (if_counts b o)
unfolding counted
fetch_by cfg r true o = refl
fetch_by cfg r false o = refl

pub fetch_row : (cfg : ConfigParts) (r : Manager) (from slot : ℕ)
    → on_fetched cfg r from slot ≡ counted cfg r (step_at_fetch r.index (part r) from slot)
unfolding on_fetched
fetch_row cfg r from slot =
    fetch_by cfg r (nat_lt slot (reach r.acceptor)) (on_fetch r.index r.acceptor r.memory from slot)
    ∙ ap (λ b. counted cfg r (if_counts b (on_fetch r.index r.acceptor r.memory from slot)))
    (sym (is_within r.acceptor.log slot))

pub lead_row : (cfg : ConfigParts) (r : Manager) (from ballot length : ℕ)
    → on_lead cfg r from ballot length
    ≡ agrees cfg (record r { heard = if nat_lt ballot r.acceptor.promise then r.heard else r.time })
    (events.on_lead r.index r.acceptor r.memory from ballot length)
unfolding on_lead events.on_lead
lead_row cfg r from ballot length = refl

-- what is counted as chosen was outstanding, so it is learned
accepted_by : (cfg : ConfigParts) (r : Manager) (from ballot slot : ℕ) (l : LeaderState) (out : Option Proposal)
    → counts cfg r (tallied_by r.index r.memory ballot slot (value_out out) (lead_accepted_of out l from ballot slot))
    (lead_accepted_of out l from ballot slot).1
    ≡ tallied cfg r (if_counts (is_counted (lead_accepted_of out l from ballot slot).1)
    (tallied_by r.index r.memory ballot slot (value_out out) (lead_accepted_of out l from ballot slot)))
unfolding tallied
accepted_by cfg r from ballot slot l None = refl
accepted_by cfg r from ballot slot l (Some p) = by
    (is_leading l.stage && (l.ballot == ballot) && (p.slot == slot) && not (has l.counted from))
    (nat_lt (how_many (joined l.counted from)) 3)
  where
    came : Bool → Bool → LeaderState × Counted
    came is_new is_few = if is_new
        then (if is_few then (with_counted l (joined l.counted from), tally.More) else (primary l, tally.Chosen))
        else (l, tally.Late)

    by : (is_new is_few : Bool)
        → counts cfg r (tallied_by r.index r.memory ballot slot (Some p.value) (came is_new is_few)) (came is_new is_few).1
        ≡ tallied cfg r (if_counts (is_counted (came is_new is_few).1)
        (tallied_by r.index r.memory ballot slot (Some p.value) (came is_new is_few)))
    by true true = refl
    by true false = refl
    by false is_few = refl

accepted_if : (cfg : ConfigParts) (r : Manager) (o : Out) (s : Counted) (b : Bool)
    → counts cfg r o s ≡ tallied cfg r (if_counts (is_counted s) o)
    → (if b then counts cfg r o s else stops (drop_turn r Late)) ≡ tallied cfg r (if_counts (b && is_counted s) o)
unfolding tallied
accepted_if cfg r o s true e = e
accepted_if cfg r o s false e = refl

pub accepted_row : (cfg : ConfigParts) (r : Manager) (from ballot slot : ℕ)
    → on_accepted cfg r from ballot slot ≡ tallied cfg r (step_at_accepted r.index (part r) from ballot slot)
unfolding on_accepted paxos.on_accepted tallied
accepted_row cfg r from ballot slot = by (is_next r.acceptor slot)
  where
    by : (b : Bool) → (if b
        then counts cfg r (if b then tallied_by r.index r.memory ballot slot (value_out r.memory.leader.out) (lead_accepted r.memory.leader from ballot slot) else paxos.quiet r.memory) (lead_accepted r.memory.leader from ballot slot).1
        else stops (drop_turn r Late))
        ≡ tallied cfg r (if_counts (b && is_counted (lead_accepted r.memory.leader from ballot slot).1) (if b then tallied_by r.index r.memory ballot slot (value_out r.memory.leader.out) (lead_accepted r.memory.leader from ballot slot) else paxos.quiet r.memory))
    by true = accepted_by cfg r from ballot slot r.memory.leader r.memory.leader.out
    by false = refl

-- a candidacy, where a ballot is left
campaign_by : (cfg : ConfigParts) (r : Manager) (x : LeaderState × Option ℕ)
    → runs_for cfg r (campaigned_by r.index r.memory x)
    ≡ ran cfg r (if_counts (is_some x.1) (campaigned_by r.index r.memory x))
unfolding ran
campaign_by cfg r (l, None) = refl
campaign_by cfg r (l, Some ballot) = refl

pub campaign_row : (cfg : ConfigParts) (r : Manager) → is_primary r.memory.leader.stage ≡ false
    → runs_for cfg r (on_campaign r.index r.acceptor r.memory) ≡ ran cfg r (step_at_campaign r.index (part r))
unfolding on_campaign
campaign_row cfg r e = rw e (campaign_by cfg r (campaign r.memory.leader (max r.acceptor.promise r.memory.seen) r.index))
