-- What is learned has room in the log.
use Rattle.std.proofs.Common.{◌≡◌, refl, sym, ℕ, Bool, true, false, ◌&&◌, if◌then◌else◌, nat_lt, Option, Some, None}
use Rattle.std.proofs.Common.{arith}
use Rattle.std.proofs.lemmas.Bool.Decides.{nat_tests}
use Rattle.paxos_spec.specs.declared.cast.Cast.{Cast}
use Rattle.paxos_spec.specs.declared.steps.PrepareStep.{PrepareStep}
use Rattle.paxos_spec.specs.declared.steps.PrepareStep.TheVariants as prepare
use Rattle.paxos_spec.specs.declared.steps.AcceptStep.{AcceptStep}
use Rattle.paxos_spec.specs.declared.steps.AcceptStep.TheVariants as accept
use Rattle.paxos_spec.specs.declared.steps.ChosenStep.{ChosenStep}
use Rattle.paxos_spec.specs.declared.steps.ChosenStep.TheVariants as chosen
use Rattle.paxos_spec.specs.declared.steps.LeadStep.{LeadStep}
use Rattle.paxos_spec.specs.declared.steps.LeadStep.TheVariants as lead
use Rattle.paxos_spec.specs.declared.steps.Counted.{Counted}
use Rattle.paxos_spec.specs.declared.steps.Counted.TheVariants as counted
use Rattle.paxos_spec.specs.Votes.{Value}
use Rattle.paxos_spec.specs.Acceptor.{AcceptorState, reach, most_slots, prepare_step, accept_step, chosen_step}
use Rattle.paxos_spec.specs.Leader.{LeaderState, lead_promise, lead_accepted, campaign, value_out}
use Rattle.paxos_spec.specs.declared.mail.Body.TheVariants.{Refuse, Fetch}
use Rattle.paxos_spec.specs.Replica.{Memory, Out, reply, quiet, with_goal, prepared, led, accepted, is_next}
use Rattle.paxos_spec.specs.Replica.{tallied_out, learned, fetched, campaigned, may_propose, on_prepare, on_promise}
use Rattle.paxos_spec.specs.Replica.{on_accept, on_accepted, on_refuse, on_chosen, on_campaign, on_offer}
use Rattle.paxos_spec.specs.Events.{Replica, if_counts, with_seen, on_lead, step_at_promise, step_at_accept}
use Rattle.paxos_spec.specs.Events.{step_at_accepted, step_at_refuse, step_at_chosen, step_at_fetch, step_at_campaign}
use Rattle.paxos_spec.specs.Events.{step_at_offer}
use Rattle.manager_spec.proofs.Choices.{by_if}
use Rattle.manager_log.specs.Log.{HasRoom, HasRoomFor, Fits}

none_room : (n : ℕ) → HasRoom n None
unfolding HasRoom
none_room n = tt

if_room : (n : ℕ) (b : Bool) (x y : Out) → HasRoom n x.entry → HasRoom n y.entry
    → HasRoom n (if b then x else y).entry
if_room n true x y f g = f
if_room n false x y f g = g

-- a step, where it counts
fits_if : (a : AcceptorState) (b : Bool) (o : Out) → HasRoom (reach a) o.entry → Fits a (if_counts b o)
unfolding Fits
fits_if a true o room = room
fits_if a false o room = tt

prepared_room : (n me : ℕ) (a : AcceptorState) (m : Memory) (from ballot : ℕ) (s : PrepareStep)
    → HasRoom n (prepared me a m from ballot s).entry
unfolding HasRoom HasRoomFor
prepared_room n me a m from ballot (prepare.Refuse promised) = tt
prepared_room n me a m from ballot prepare.Again = tt
prepared_room n me a m from ballot prepare.Promise = tt

pub prepare_room : (n me : ℕ) (a : AcceptorState) (m : Memory) (from ballot : ℕ)
    → HasRoom n (on_prepare me a m from ballot).entry
unfolding on_prepare
prepare_room n me a m from ballot = prepared_room n me a m from ballot (prepare_step a ballot)

led_room : (n me at : ℕ) (m : Memory) (l : LeaderState) (s : LeadStep) → HasRoom n (led me at m l s).entry
unfolding HasRoom
led_room n me at m l lead.Late = tt
led_room n me at m l lead.More = tt
led_room n me at m l (lead.Catch from slot) = tt
led_room n me at m l lead.Inherit = tt
led_room n me at m l lead.Ready = tt

pub promise_fits : (me : ℕ) (r : Replica) (from ballot length : ℕ) (vote : Cast)
    → Fits r.acceptor (step_at_promise me r from ballot length vote)
unfolding on_promise
promise_fits me r from ballot length vote = fits_if r.acceptor _ _
    (led_room (reach r.acceptor) me (reach r.acceptor) r.memory
    (lead_promise r.memory.leader from ballot length vote (reach r.acceptor)).0
    (lead_promise r.memory.leader from ballot length vote (reach r.acceptor)).1)

vote_room : (n me : ℕ) (m : Memory) (from ballot slot : ℕ) (value : Value) (s : AcceptStep)
    → HasRoom n (accepted me m from ballot slot value s).entry
unfolding HasRoom HasRoomFor
vote_room n me m from ballot slot value (accept.Refuse promised) = tt
vote_room n me m from ballot slot value accept.Late = tt
vote_room n me m from ballot slot value (accept.Behind length) = tt
vote_room n me m from ballot slot value accept.Again = tt
vote_room n me m from ballot slot value accept.Voted = tt

pub accept_fits : (me : ℕ) (r : Replica) (from ballot slot : ℕ) (value : Value)
    → Fits r.acceptor (step_at_accept me r from ballot slot value)
unfolding on_accept
accept_fits me r from ballot slot value = fits_if r.acceptor _ _
    (vote_room (reach r.acceptor) me r.memory from ballot slot value (accept_step r.acceptor ballot slot value))

second : (x y : Bool) → (x && y) ≡ true → y ≡ true
second true y e = e
second false y e = absurd (cc)

tallied_room : (n me : ℕ) (m : Memory) (ballot slot : ℕ) (out : Option Value) (l : LeaderState) (s : Counted)
    → nat_lt n most_slots ≡ true → HasRoom n (tallied_out me m ballot slot out l s).entry
unfolding HasRoom HasRoomFor
tallied_room n me m ballot slot out l counted.Late room = tt
tallied_room n me m ballot slot out l counted.More room = tt
tallied_room n me m ballot slot None l counted.Chosen room = tt
tallied_room n me m ballot slot (Some value) l counted.Chosen room = room

pub accepted_fits : (me : ℕ) (r : Replica) (from ballot slot : ℕ)
    → Fits r.acceptor (step_at_accepted me r from ballot slot)
unfolding on_accepted HasRoom
accepted_fits me r from ballot slot = fits_if r.acceptor _ _
    (by_if (λ (o : Out). HasRoom (reach r.acceptor) o.entry) (is_next r.acceptor slot)
    (λ e. tallied_room (reach r.acceptor) me r.memory ballot slot (value_out r.memory.leader.out)
    (lead_accepted r.memory.leader from ballot slot).0 (lead_accepted r.memory.leader from ballot slot).1
    (second _ _ e))
    (λ _. tt))

pub refuse_room : (n : ℕ) (m : Memory) (ballot promised : ℕ) → HasRoom n (on_refuse m ballot promised).entry
unfolding on_refuse
refuse_room n m ballot promised = if_room n _ _ _ (none_room n) (none_room n)

learned_room : (me : ℕ) (a : AcceptorState) (m : Memory) (from slot ballot : ℕ) (value : Value) (s : ChosenStep)
    → chosen_step a slot ≡ s → HasRoom (reach a) (learned me a m from slot ballot value s).entry
unfolding HasRoom HasRoomFor
learned_room me a m from slot ballot value chosen.Late e = tt
learned_room me a m from slot ballot value (chosen.Behind length) e = tt
learned_room me a m from slot ballot value chosen.Learned e = grind (arith, nat_tests)

pub chosen_fits : (me : ℕ) (r : Replica) (from slot ballot : ℕ) (value : Value)
    → Fits r.acceptor (step_at_chosen me r from slot ballot value)
unfolding on_chosen
chosen_fits me r from slot ballot value = fits_if r.acceptor _ _
    (learned_room me r.acceptor r.memory from slot ballot value (chosen_step r.acceptor slot) refl)

fetched_room : (n me : ℕ) (m : Memory) (from slot : ℕ) (x : Option Cast) → HasRoom n (fetched me m from slot x).entry
unfolding HasRoom
fetched_room n me m from slot None = tt
fetched_room n me m from slot (Some x) = tt

pub fetch_fits : (me : ℕ) (r : Replica) (from slot : ℕ) → Fits r.acceptor (step_at_fetch me r from slot)
fetch_fits me r from slot = fits_if r.acceptor _ _ (fetched_room (reach r.acceptor) me r.memory from slot _)

pub lead_room : (n me : ℕ) (a : AcceptorState) (m : Memory) (from ballot length : ℕ)
    → HasRoom n (on_lead me a m from ballot length).entry
unfolding on_lead
lead_room n me a m from ballot length =
    let fetch : Out = reply (with_goal (with_seen m ballot) length from) me (Fetch (reach a)) from in
    let heard : Out = quiet (with_seen m ballot) in
    if_room n (nat_lt ballot a.promise) (reply m me (Refuse ballot a.promise) from)
    (if nat_lt (reach a) length then fetch else heard) (none_room n)
    (if_room n (nat_lt (reach a) length) fetch heard (none_room n) (none_room n))

campaigned_room : (n me : ℕ) (m : Memory) (l : LeaderState) (ballot : Option ℕ)
    → HasRoom n (campaigned me m l ballot).entry
unfolding HasRoom HasRoomFor
campaigned_room n me m l None = tt
campaigned_room n me m l (Some ballot) = tt

pub campaign_room : (n me : ℕ) (a : AcceptorState) (m : Memory) → HasRoom n (on_campaign me a m).entry
unfolding on_campaign
campaign_room n me a m = if_room n _ _ _ (none_room n) (campaigned_room n me m _ _)

pub campaign_fits : (me : ℕ) (r : Replica) → Fits r.acceptor (step_at_campaign me r)
campaign_fits me r = fits_if r.acceptor _ _ (campaign_room (reach r.acceptor) me r.acceptor r.memory)

-- where it comes
pub refuse_fits : (r : Replica) (ballot promised : ℕ) → Fits r.acceptor (step_at_refuse r ballot promised)
refuse_fits r ballot promised = fits_if r.acceptor _ _ (refuse_room (reach r.acceptor) r.memory ballot promised)

pub offer_room : (n me : ℕ) (a : AcceptorState) (m : Memory) (value : Value)
    → HasRoom n (on_offer me a m value).entry
unfolding on_offer
offer_room n me a m value = if_room n _ _ _ (none_room n) (none_room n)

pub offer_fits : (me : ℕ) (r : Replica) (value : Value) → Fits r.acceptor (step_at_offer me r value)
offer_fits me r value = fits_if r.acceptor _ _ (offer_room (reach r.acceptor) me r.acceptor r.memory value)

-- a step that came has room
pub fits_room : (a : AcceptorState) (o : Out) (x : Option Out) → x ≡ Some o → Fits a x → HasRoom (reach a) o.entry
unfolding Fits
fits_room a o None e fits = absurd (cc)
fits_room a o (Some p) e fits = let same : p ≡ o = cc in rw (sym same) fits
