-- What a replica does with each message, when it runs for election, and when a value is offered to it.
use Rattle.std.specs.Prelude.{ℕ, ◌+◌, max, Bool, not, ◌&&◌, ◌||◌, if◌then◌else◌, nat_lt, ◌==◌, List, [], ◌∷◌, map}
use Rattle.std.specs.Prelude.{filter, Option, Some, None, slice_get}
use Rattle.wire_core.specs.declared.entry.Entry.{Entry}
use Rattle.wire_core.specs.declared.entry.Entry.TheVariants as entry
use Rattle.paxos_spec.specs.declared.mail.Body.{Body}
use Rattle.paxos_spec.specs.declared.mail.Body.TheVariants.{Prepare, Promise, Accept, Accepted, Refuse, Chosen, Fetch}
use Rattle.paxos_spec.specs.declared.mail.Mail.{Mail}
use Rattle.paxos_spec.specs.declared.steps.PrepareStep.{PrepareStep}
use Rattle.paxos_spec.specs.declared.steps.PrepareStep.TheVariants as prepare
use Rattle.paxos_spec.specs.declared.steps.AcceptStep.{AcceptStep}
use Rattle.paxos_spec.specs.declared.steps.AcceptStep.TheVariants as accept
use Rattle.paxos_spec.specs.declared.steps.ChosenStep.{ChosenStep}
use Rattle.paxos_spec.specs.declared.steps.ChosenStep.TheVariants as chosen
use Rattle.paxos_spec.specs.declared.steps.LeadStep.{LeadStep}
use Rattle.paxos_spec.specs.declared.steps.LeadStep.TheVariants as lead
use Rattle.paxos_spec.specs.declared.steps.Counted.{Counted}
use Rattle.paxos_spec.specs.declared.steps.Counted.TheVariants as counted
use Rattle.paxos_spec.specs.declared.cast.Cast.{Cast}
use Rattle.paxos_spec.specs.Votes.{Value, cast, value_of}
use Rattle.paxos_spec.specs.Five.{five}
use Rattle.paxos_spec.specs.Acceptor.{AcceptorState, reach, most_slots, prepare_step, accept_step, chosen_step}
use Rattle.paxos_spec.specs.Leader.{LeaderState, new_leader, is_follower, is_catching, is_primary, is_leading, is_idle}
use Rattle.paxos_spec.specs.Leader.{value_out, stepped_down, campaign, lead_promise, lead_reached, propose}
use Rattle.paxos_spec.specs.Leader.{lead_accepted}

-- What a replica keeps in memory alone.
pub record Memory : Type 0 where
  pub leader : LeaderState
  pub seen : ℕ  -- the greatest ballot or epoch that it heard of in a refusal
  pub goal : ℕ  -- a length that some replica has
  pub guide : ℕ  -- that replica

abbrev pub new_memory : Memory
new_memory = record { leader = new_leader; seen = 0; goal = 0; guide = 0 }

abbrev pub with_leader : Memory → LeaderState → Memory
with_leader m l = record { leader = l; seen = m.seen; goal = m.goal; guide = m.guide }

abbrev pub with_goal : Memory → ℕ → ℕ → Memory
with_goal m length replica = record { leader = m.leader; seen = m.seen; goal = length; guide = replica }

-- it steps down
abbrev pub down : Memory → Memory
down m = with_leader m (stepped_down m.leader)

-- What one step of a replica does: at most one entry, which is durable before a message leaves; its memory; its
-- messages.
pub record Out : Type 0 where
  pub entry : Option Entry
  pub memory : Memory
  pub sends : List Mail

abbrev pub mail : ℕ → Body → ℕ → Mail
mail me body to = record { sender = me; target = to; body = body }

abbrev pub to_all : ℕ → Body → List Mail
to_all me body = map (mail me body) five

abbrev pub to_others : ℕ → Body → List Mail
to_others me body = map (mail me body) (filter (λ i. not (i == me)) five)

-- nothing but memory changes
abbrev pub quiet : Memory → Out
quiet m = record { entry = None; memory = m; sends = [] }

abbrev pub reply : Memory → ℕ → Body → ℕ → Out
reply m me body to = record { entry = None; memory = m; sends = mail me body to ∷ [] }

-- the promise that it answers: its length and its vote
abbrev pub promise_of : AcceptorState → ℕ → Body
promise_of a ballot = Promise ballot (reach a) a.vote.ballot (value_of a.vote)

-- Prepare.
abbrev pub prepared : ℕ → AcceptorState → Memory → ℕ → ℕ → PrepareStep → Out
prepared me a m from ballot (prepare.Refuse promised) = reply m me (Refuse ballot promised) from
prepared me a m from ballot prepare.Again = reply m me (promise_of a ballot) from
prepared me a m from ballot prepare.Promise = record {
  entry = Some (entry.Promise ballot);
  memory = down m;
  sends = mail me (promise_of a ballot) from ∷ [];
}

unfoldable pub on_prepare : ℕ → AcceptorState → Memory → ℕ → ℕ → Out
on_prepare me a m from ballot = prepared me a m from ballot (prepare_step a ballot)

abbrev pub accept_of : ℕ → ℕ → ℕ → Option Value → List Mail
accept_of me at ballot None = []
accept_of me at ballot (Some value) = to_all me (Accept ballot at value)

-- the Accept of what is outstanding, if anything is, for the slot at the log's end
abbrev pub accept_out : ℕ → ℕ → LeaderState → List Mail
accept_out me at l = accept_of me at l.ballot (value_out l.out)

-- Where a promise brought a leader whose log has this length.
abbrev pub led : ℕ → ℕ → Memory → LeaderState → LeadStep → Out
led me at m l lead.Late = quiet (with_leader m l)
led me at m l lead.More = quiet (with_leader m l)
led me at m l (lead.Catch from slot) = reply (with_goal (with_leader m l) slot from) me (Fetch at) from
led me at m l lead.Inherit = record { entry = None; memory = with_leader m l; sends = accept_out me at l }
led me at m l lead.Ready = quiet (with_leader m l)

abbrev pub led_by : ℕ → ℕ → Memory → LeaderState × LeadStep → Out
led_by me at m x = led me at m x.0 x.1

-- Promise.
unfoldable pub on_promise : ℕ → AcceptorState → Memory → ℕ → ℕ → ℕ → Cast → Out
on_promise me a m from ballot length vote =
    led_by me (reach a) m (lead_promise m.leader from ballot length vote (reach a))

-- Accept.
abbrev pub accepted : ℕ → Memory → ℕ → ℕ → ℕ → Value → AcceptStep → Out
accepted me m from ballot slot value (accept.Refuse promised) = reply m me (Refuse ballot promised) from
accepted me m from ballot slot value accept.Late = quiet m
accepted me m from ballot slot value (accept.Behind length) = reply (with_goal m slot from) me (Fetch length) from
accepted me m from ballot slot value accept.Again = reply m me (Accepted ballot slot) from
accepted me m from ballot slot value accept.Voted = record {
  entry = Some (entry.Vote ballot value);
  memory = if nat_lt m.leader.ballot ballot then down m else m;
  sends = mail me (Accepted ballot slot) from ∷ [];
}

unfoldable pub on_accept : ℕ → AcceptorState → Memory → ℕ → ℕ → ℕ → Value → Out
on_accept me a m from ballot slot value = accepted me m from ballot slot value (accept_step a ballot slot value)

-- the slot is the next one, and there is room for it
abbrev pub is_next : AcceptorState → ℕ → Bool
is_next a slot = (slot == reach a) && nat_lt (reach a) most_slots

-- Accepted. The third one chooses what was outstanding: it is learned and told.
abbrev pub tallied_out : ℕ → Memory → ℕ → ℕ → Option Value → LeaderState → Counted → Out
tallied_out me m ballot slot out l counted.Late = quiet m
tallied_out me m ballot slot out l counted.More = quiet (with_leader m l)
tallied_out me m ballot slot None l counted.Chosen = quiet m
tallied_out me m ballot slot (Some value) l counted.Chosen = record {
  entry = Some (entry.Learn ballot value);
  memory = with_leader m l;
  sends = to_others me (Chosen slot ballot value);
}

abbrev pub tallied_by : ℕ → Memory → ℕ → ℕ → Option Value → LeaderState × Counted → Out
tallied_by me m ballot slot out x = tallied_out me m ballot slot out x.0 x.1

unfoldable pub on_accepted : ℕ → AcceptorState → Memory → ℕ → ℕ → ℕ → Out
on_accepted me a m from ballot slot =
    if is_next a slot
    then tallied_by me m ballot slot (value_out m.leader.out) (lead_accepted m.leader from ballot slot)
    else quiet m

-- Refuse: its candidacy or its lead is over.
unfoldable pub on_refuse : Memory → ℕ → ℕ → Out
on_refuse m ballot promised =
    if not (is_follower m.leader.stage) && (m.leader.ballot == ballot) && nat_lt ballot promised
    then quiet (record { leader = stepped_down m.leader; seen = max m.seen promised; goal = m.goal; guide = m.guide })
    else quiet m

-- the next slot is fetched from the guide where the log is short of the goal
abbrev pub fetch_more : ℕ → ℕ → Memory → List Mail
fetch_more me at m = if nat_lt at m.goal then mail me (Fetch at) m.guide ∷ [] else []

-- Once a message brought the log to a length: where the promise is above its ballot, or it led, the replica steps
-- down; where it is the length that it sought, it arrives; else it goes on.
abbrev pub onwards : ℕ → ℕ → ℕ → Memory → LeaderState × List Mail
onwards me promise at m =
    if is_leading m.leader.stage || nat_lt m.leader.ballot promise
    then (stepped_down m.leader, fetch_more me at m)
    else if is_catching m.leader.stage && (at == m.leader.sought)
    then ((lead_reached m.leader).0, accept_out me at (lead_reached m.leader).0)
    else (m.leader, fetch_more me at m)

abbrev pub once_learned : Entry → Memory → LeaderState × List Mail → Out
once_learned e m x = record { entry = Some e; memory = with_leader m x.0; sends = x.1 }

-- Chosen.
abbrev pub learned : ℕ → AcceptorState → Memory → ℕ → ℕ → ℕ → Value → ChosenStep → Out
learned me a m from slot ballot value chosen.Late = quiet m
learned me a m from slot ballot value (chosen.Behind length) = reply (with_goal m slot from) me (Fetch length) from
learned me a m from slot ballot value chosen.Learned =
    once_learned (entry.Learn ballot value) m (onwards me (max a.promise ballot) (slot + 1) m)

unfoldable pub on_chosen : ℕ → AcceptorState → Memory → ℕ → ℕ → ℕ → Value → Out
on_chosen me a m from slot ballot value = learned me a m from slot ballot value (chosen_step a slot)

-- Fetch.
abbrev pub fetched : ℕ → Memory → ℕ → ℕ → Option Cast → Out
fetched me m from slot None = quiet m
fetched me m from slot (Some x) = reply m me (Chosen slot x.ballot x.value) from

abbrev pub on_fetch : ℕ → AcceptorState → Memory → ℕ → ℕ → Out
on_fetch me a m from slot = fetched me m from slot (slice_get a.log slot)

-- One message comes to a replica.
abbrev pub on_message : ℕ → AcceptorState → Memory → ℕ → Body → Out
on_message me a m from (Prepare ballot) = on_prepare me a m from ballot
on_message me a m from (Promise ballot length vote value) = on_promise me a m from ballot length (cast vote value)
on_message me a m from (Accept ballot slot value) = on_accept me a m from ballot slot value
on_message me a m from (Accepted ballot slot) = on_accepted me a m from ballot slot
on_message me a m from (Refuse ballot promised) = on_refuse m ballot promised
on_message me a m from (Chosen slot ballot value) = on_chosen me a m from slot ballot value
on_message me a m from (Fetch slot) = on_fetch me a m from slot

-- A replica that isn't primary runs for election, above all that it promised or heard of.
abbrev pub campaigned : ℕ → Memory → LeaderState → Option ℕ → Out
campaigned me m l None = quiet m
campaigned me m l (Some ballot) = record {
  entry = Some (entry.Promise ballot);
  memory = with_leader m l;
  sends = to_all me (Prepare ballot);
}

abbrev pub campaigned_by : ℕ → Memory → LeaderState × Option ℕ → Out
campaigned_by me m x = campaigned me m x.0 x.1

unfoldable pub on_campaign : ℕ → AcceptorState → Memory → Out
on_campaign me a m =
    if is_primary m.leader.stage then quiet m
    else campaigned_by me m (campaign m.leader (max a.promise m.seen) me)

-- A primary with nothing outstanding and room proposes what is offered.
abbrev pub may_propose : AcceptorState → LeaderState → Bool
may_propose a l = is_primary l.stage && is_idle l.out && nat_lt (reach a) most_slots

unfoldable pub on_offer : ℕ → AcceptorState → Memory → Value → Out
on_offer me a m value =
    if may_propose a m.leader
    then record {
      entry = None;
      memory = with_leader m (propose m.leader (reach a) value);
      sends = to_all me (Accept m.leader.ballot (reach a) value);
    }
    else quiet m
