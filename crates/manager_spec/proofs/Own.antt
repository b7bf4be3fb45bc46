-- What a step of the agreement says is its replica's own.
use Rattle.std.proofs.Common.{◌≡◌, refl, ℕ, List, map, filter, Option, Some, None, max}
use Rattle.std.specs.Prelude.{not, ◌&&◌, ◌||◌, ◌==◌, nat_lt, slice_get}
use Rattle.paxos_spec.specs.declared.cast.Cast.{Cast}
use Rattle.paxos_spec.specs.declared.mail.Body.{Body}
use Rattle.paxos_spec.specs.declared.mail.Body.TheVariants as body
use Rattle.paxos_spec.specs.declared.mail.Mail.{Mail}
use Rattle.paxos_spec.specs.declared.steps.PrepareStep.{PrepareStep}
use Rattle.paxos_spec.specs.declared.steps.PrepareStep.TheVariants as prepare
use Rattle.paxos_spec.specs.declared.steps.AcceptStep.{AcceptStep}
use Rattle.paxos_spec.specs.declared.steps.AcceptStep.TheVariants as accept
use Rattle.paxos_spec.specs.declared.steps.ChosenStep.{ChosenStep}
use Rattle.paxos_spec.specs.declared.steps.ChosenStep.TheVariants as chosen
use Rattle.paxos_spec.specs.declared.steps.LeadStep.{LeadStep}
use Rattle.paxos_spec.specs.declared.steps.LeadStep.TheVariants as lead
use Rattle.paxos_spec.specs.declared.steps.Counted.{Counted}
use Rattle.paxos_spec.specs.declared.steps.Counted.TheVariants as counted
use Rattle.paxos_spec.specs.Votes.{Value, cast}
use Rattle.paxos_spec.specs.Five.{five}
use Rattle.paxos_spec.specs.Acceptor.{AcceptorState, reach, prepare_step, accept_step, chosen_step}
use Rattle.paxos_spec.specs.Leader.{LeaderState, is_follower, is_catching, is_primary, is_leading, value_out}
use Rattle.paxos_spec.specs.Leader.{stepped_down, campaign, lead_promise, lead_reached, lead_accepted}
use Rattle.paxos_spec.specs.Replica.{Memory, Out, mail, prepared, on_prepare, accept_of, accept_out, led, on_promise}
use Rattle.paxos_spec.specs.Replica.{accepted, on_accept, is_next, tallied_out, on_accepted, on_refuse, fetch_more}
use Rattle.paxos_spec.specs.Replica.{onwards, learned, on_chosen, fetched, on_message, campaigned, on_campaign}
use Rattle.paxos_spec.specs.Replica.{may_propose, on_offer}
use Rattle.manager_spec.proofs.Choices.{by_if}
use Rattle.manager_spec.proofs.Mails.{AreOwn, each_map}

abbrev pub IsOwn : ℕ → Out → Type 0
IsOwn me o = AreOwn me o.sends

all_own : (me : ℕ) (b : Body) (xs : List ℕ) → AreOwn me (map (mail me b) xs)
all_own me b xs = each_map (λ (x : Mail). x.sender ≡ me) (mail me b) (λ _. refl) xs

accept_own : (me at ballot : ℕ) (o : Option Value) → AreOwn me (accept_of me at ballot o)
accept_own me at ballot None = tt
accept_own me at ballot (Some v) = all_own me (body.Accept ballot at v) five

pub again_own : (me at : ℕ) (l : LeaderState) → AreOwn me (accept_out me at l)
again_own me at l = accept_own me at l.ballot (value_out l.out)

prepared_own : (me : ℕ) (a : AcceptorState) (m : Memory) (from ballot : ℕ) (s : PrepareStep)
    → IsOwn me (prepared me a m from ballot s)
prepared_own me a m from ballot (prepare.Refuse promised) = (refl, tt)
prepared_own me a m from ballot prepare.Again = (refl, tt)
prepared_own me a m from ballot prepare.Promise = (refl, tt)

led_own : (me at : ℕ) (m : Memory) (l : LeaderState) (s : LeadStep) → IsOwn me (led me at m l s)
led_own me at m l lead.Late = tt
led_own me at m l lead.More = tt
led_own me at m l (lead.Catch from slot) = (refl, tt)
led_own me at m l lead.Inherit = again_own me at l
led_own me at m l lead.Ready = tt

accepted_own : (me : ℕ) (m : Memory) (from ballot slot : ℕ) (v : Value) (s : AcceptStep)
    → IsOwn me (accepted me m from ballot slot v s)
accepted_own me m from ballot slot v (accept.Refuse promised) = (refl, tt)
accepted_own me m from ballot slot v accept.Late = tt
accepted_own me m from ballot slot v (accept.Behind length) = (refl, tt)
accepted_own me m from ballot slot v accept.Again = (refl, tt)
accepted_own me m from ballot slot v accept.Voted = (refl, tt)

tallied_own : (me : ℕ) (m : Memory) (ballot slot : ℕ) (o : Option Value) (l : LeaderState) (k : Counted)
    → IsOwn me (tallied_out me m ballot slot o l k)
tallied_own me m ballot slot o l counted.Late = tt
tallied_own me m ballot slot o l counted.More = tt
tallied_own me m ballot slot None l counted.Chosen = tt
tallied_own me m ballot slot (Some v) l counted.Chosen =
    all_own me (body.Chosen slot ballot v) (filter (λ i. not (i == me)) five)

more_own : (me at : ℕ) (m : Memory) → AreOwn me (fetch_more me at m)
more_own me at m = by_if (AreOwn me) (nat_lt at m.goal) (λ _. (refl, tt)) (λ _. tt)

onwards_own : (me promise at : ℕ) (m : Memory) → AreOwn me (onwards me promise at m).1
onwards_own me promise at m =
    by_if (λ (x : LeaderState × List Mail). AreOwn me x.1) (is_leading m.leader.stage || nat_lt m.leader.ballot promise)
    {x = (stepped_down m.leader, fetch_more me at m)}
    (λ _. more_own me at m)
    (λ _. by_if (λ (x : LeaderState × List Mail). AreOwn me x.1) (is_catching m.leader.stage && (at == m.leader.sought))
    {x = ((lead_reached m.leader).0, accept_out me at (lead_reached m.leader).0)} {y = (m.leader, fetch_more me at m)}
    (λ _. again_own me at (lead_reached m.leader).0) (λ _. more_own me at m))

learned_own : (me : ℕ) (a : AcceptorState) (m : Memory) (from slot ballot : ℕ) (v : Value) (s : ChosenStep)
    → IsOwn me (learned me a m from slot ballot v s)
learned_own me a m from slot ballot v chosen.Late = tt
learned_own me a m from slot ballot v (chosen.Behind length) = (refl, tt)
learned_own me a m from slot ballot v chosen.Learned = onwards_own me (max a.promise ballot) _ m

fetched_own : (me : ℕ) (m : Memory) (from slot : ℕ) (o : Option Cast) → IsOwn me (fetched me m from slot o)
fetched_own me m from slot None = tt
fetched_own me m from slot (Some x) = (refl, tt)

-- a message of the agreement
pub message_own : (me : ℕ) (a : AcceptorState) (m : Memory) (from : ℕ) (b : Body) → IsOwn me (on_message me a m from b)
unfolding on_prepare on_promise on_accept on_accepted on_refuse on_chosen
message_own me a m from (body.Prepare c) = prepared_own me a m from c (prepare_step a c)
message_own me a m from (body.Promise c l vote value) =
    led_own me (reach a) m (lead_promise m.leader from c l (cast vote value) (reach a)).0
    (lead_promise m.leader from c l (cast vote value) (reach a)).1
message_own me a m from (body.Accept c s v) = accepted_own me m from c s v (accept_step a c s v)
message_own me a m from (body.Accepted c s) = by_if (IsOwn me) (is_next a s)
    (λ _. tallied_own me m c s (value_out m.leader.out) (lead_accepted m.leader from c s).0
    (lead_accepted m.leader from c s).1)
    (λ _. tt)
message_own me a m from (body.Refuse c p) =
    by_if (IsOwn me) (not (is_follower m.leader.stage) && (m.leader.ballot == c) && nat_lt c p) (λ _. tt) (λ _. tt)
message_own me a m from (body.Chosen s c v) = learned_own me a m from s c v (chosen_step a s)
message_own me a m from (body.Fetch s) = fetched_own me m from s (slice_get a.log s)

campaigned_own : (me : ℕ) (m : Memory) (l : LeaderState) (o : Option ℕ) → IsOwn me (campaigned me m l o)
campaigned_own me m l None = tt
campaigned_own me m l (Some c) = all_own me (body.Prepare c) five

pub campaign_own : (me : ℕ) (a : AcceptorState) (m : Memory) → IsOwn me (on_campaign me a m)
unfolding on_campaign
campaign_own me a m = by_if (IsOwn me) (is_primary m.leader.stage) (λ _. tt)
    (λ _. campaigned_own me m (campaign m.leader (max a.promise m.seen) me).0
    (campaign m.leader (max a.promise m.seen) me).1)

pub offer_own : (me : ℕ) (a : AcceptorState) (m : Memory) (v : Value) → IsOwn me (on_offer me a m v)
unfolding on_offer
offer_own me a m v = by_if (IsOwn me) (may_propose a m.leader)
    (λ _. all_own me (body.Accept m.leader.ballot (reach a) v) five) (λ _. tt)
