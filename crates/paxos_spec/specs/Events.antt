-- What an event comes to: the step that a replica takes, where the event counts. What doesn't count is passed over.
use Rattle.std.specs.Prelude.{ℕ, max, Bool, true, false, not, ◌&&◌, if◌then◌else◌, nat_lt, ◌==◌, Option, Some, None}
use Rattle.std.specs.Prelude.{is_some, slice_get}
use Rattle.paxos_spec.specs.declared.mail.Body.{Body}
use Rattle.paxos_spec.specs.declared.mail.Body.TheVariants.{Prepare, Promise, Accept, Accepted, Refuse, Chosen, Fetch}
use Rattle.paxos_spec.specs.declared.steps.AcceptStep.{AcceptStep}
use Rattle.paxos_spec.specs.declared.steps.AcceptStep.TheVariants as accept
use Rattle.paxos_spec.specs.declared.steps.ChosenStep.{ChosenStep}
use Rattle.paxos_spec.specs.declared.steps.ChosenStep.TheVariants as chosen
use Rattle.paxos_spec.specs.declared.steps.LeadStep.{LeadStep}
use Rattle.paxos_spec.specs.declared.steps.LeadStep.TheVariants as lead
use Rattle.paxos_spec.specs.declared.steps.Counted.{Counted}
use Rattle.paxos_spec.specs.declared.steps.Counted.TheVariants as counted
use Rattle.paxos_spec.specs.declared.cast.Cast.{Cast}
use Rattle.paxos_spec.specs.Votes.{Value, cast}
use Rattle.paxos_spec.specs.Acceptor.{AcceptorState, new_acceptor, reach, kept, accept_step, chosen_step}
use Rattle.paxos_spec.specs.Leader.{is_follower, is_primary, stepped_down, campaign, lead_promise, lead_accepted}
use Rattle.paxos_spec.specs.Replica.{Memory, new_memory, with_goal, Out, reply, quiet, is_next, may_propose, on_prepare}
use Rattle.paxos_spec.specs.Replica.{on_promise, on_accept, on_accepted, on_refuse, on_chosen, on_fetch, on_campaign}
use Rattle.paxos_spec.specs.Replica.{on_offer}

-- A replica's part in agreement: what its acceptor keeps, and what it has in memory.
pub record Replica : Type 0 where
  pub acceptor : AcceptorState
  pub memory : Memory

abbrev pub new_replica : Replica
new_replica = record { acceptor = new_acceptor; memory = new_memory }

-- after a step
abbrev pub after_step : Replica → Out → Replica
after_step r o = record { acceptor = kept r.acceptor o.entry; memory = o.memory }

abbrev pub if_counts : Bool → Out → Option Out
if_counts counts o = if counts then Some o else None

-- passed over, an event changes nothing
abbrev pub or_quiet : Memory → Option Out → Out
or_quiet m None = quiet m
or_quiet m (Some o) = o

-- A Promise counts for a candidate at its ballot, once for each replica.
abbrev pub lead_counts : LeadStep → Bool
lead_counts lead.Late = false
lead_counts lead.More = true
lead_counts (lead.Catch from slot) = true
lead_counts lead.Inherit = true
lead_counts lead.Ready = true

abbrev pub step_at_promise : ℕ → Replica → ℕ → ℕ → ℕ → Cast → Option Out
step_at_promise me r from ballot length vote = if_counts
    (lead_counts (lead_promise r.memory.leader from ballot length vote (reach r.acceptor)).1)
    (on_promise me r.acceptor r.memory from ballot length vote)

-- An Accept counts unless its slot has its value, or the log is full.
abbrev pub accept_counts : AcceptStep → Bool
accept_counts (accept.Refuse promised) = true
accept_counts accept.Late = false
accept_counts (accept.Behind length) = true
accept_counts accept.Again = true
accept_counts accept.Voted = true

abbrev pub step_at_accept : ℕ → Replica → ℕ → ℕ → ℕ → Value → Option Out
step_at_accept me r from ballot slot value = if_counts
    (accept_counts (accept_step r.acceptor ballot slot value))
    (on_accept me r.acceptor r.memory from ballot slot value)

-- An Accepted counts for what is outstanding at the log's end, once for each replica.
abbrev pub is_counted : Counted → Bool
is_counted counted.Late = false
is_counted counted.More = true
is_counted counted.Chosen = true

abbrev pub step_at_accepted : ℕ → Replica → ℕ → ℕ → ℕ → Option Out
step_at_accepted me r from ballot slot = if_counts
    (is_next r.acceptor slot && is_counted (lead_accepted r.memory.leader from ballot slot).1)
    (on_accepted me r.acceptor r.memory from ballot slot)

-- A Refuse counts at the ballot of a candidacy or a lead, where a higher one was promised.
abbrev pub refuse_counts : Memory → ℕ → ℕ → Bool
refuse_counts m ballot promised =
    not (is_follower m.leader.stage) && (m.leader.ballot == ballot) && nat_lt ballot promised

abbrev pub step_at_refuse : Replica → ℕ → ℕ → Option Out
step_at_refuse r ballot promised = if_counts
    (refuse_counts r.memory ballot promised)
    (on_refuse r.memory ballot promised)

-- A Chosen counts unless its slot has its value, or the log is full.
abbrev pub chosen_counts : ChosenStep → Bool
chosen_counts chosen.Late = false
chosen_counts (chosen.Behind length) = true
chosen_counts chosen.Learned = true

abbrev pub step_at_chosen : ℕ → Replica → ℕ → ℕ → ℕ → Value → Option Out
step_at_chosen me r from slot ballot value = if_counts
    (chosen_counts (chosen_step r.acceptor slot))
    (on_chosen me r.acceptor r.memory from slot ballot value)

-- A Fetch counts where the slot was learned.
abbrev pub step_at_fetch : ℕ → Replica → ℕ → ℕ → Option Out
step_at_fetch me r from slot = if_counts
    (is_some (slice_get r.acceptor.log slot))
    (on_fetch me r.acceptor r.memory from slot)

-- One message comes. A Prepare always counts.
abbrev pub step_at : ℕ → Replica → ℕ → Body → Option Out
step_at me r from (Prepare ballot) = Some (on_prepare me r.acceptor r.memory from ballot)
step_at me r from (Promise ballot length vote value) = step_at_promise me r from ballot length (cast vote value)
step_at me r from (Accept ballot slot value) = step_at_accept me r from ballot slot value
step_at me r from (Accepted ballot slot) = step_at_accepted me r from ballot slot
step_at me r from (Refuse ballot promised) = step_at_refuse r ballot promised
step_at me r from (Chosen slot ballot value) = step_at_chosen me r from slot ballot value
step_at me r from (Fetch slot) = step_at_fetch me r from slot

-- It may run for election: it isn't primary, and a ballot is left.
abbrev pub may_campaign : ℕ → Replica → Bool
may_campaign me r =
    not (is_primary r.memory.leader.stage)
    && is_some (campaign r.memory.leader (max r.acceptor.promise r.memory.seen) me).1

abbrev pub step_at_campaign : ℕ → Replica → Option Out
step_at_campaign me r = if_counts (may_campaign me r) (on_campaign me r.acceptor r.memory)

-- A value is offered.
abbrev pub step_at_offer : ℕ → Replica → Value → Option Out
step_at_offer me r value = if_counts
    (may_propose r.acceptor r.memory.leader)
    (on_offer me r.acceptor r.memory value)

-- a ballot or an epoch was heard of
abbrev pub with_seen : Memory → ℕ → Memory
with_seen m ballot = record { leader = m.leader; seen = max m.seen ballot; goal = m.goal; guide = m.guide }

-- Another replica says that it leads at this ballot, with a log of this length: below the promise it is refused; else
-- the ballot is heard of, and what the log lacks is fetched.
unfoldable pub on_lead : ℕ → AcceptorState → Memory → ℕ → ℕ → ℕ → Out
on_lead me a m from ballot length =
    if nat_lt ballot a.promise then reply m me (Refuse ballot a.promise) from
    else if nat_lt (reach a) length then reply (with_goal (with_seen m ballot) length from) me (Fetch (reach a)) from
    else quiet (with_seen m ballot)

-- A greater epoch was heard of than the ballot at which it leads or wants to: it steps down.
abbrev pub on_epoch : Memory → ℕ → Memory
on_epoch m epoch = record {
  leader = if not (is_follower m.leader.stage) && nat_lt m.leader.ballot epoch then stepped_down m.leader else m.leader;
  seen = max m.seen epoch;
  goal = m.goal;
  guide = m.guide;
}
