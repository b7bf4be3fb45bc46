-- What the log gets: Accept, Accepted, Chosen and Fetch.
use Rattle.std.specs.Prelude.{ℕ, Bool, true, false, if◌then◌else◌, nat_lt}
use Rattle.wire_core.specs.declared.cause.DropCause.TheVariants.{Late}
use Rattle.vip_config.specs.declared.parts.ConfigParts.{ConfigParts}
use Rattle.vip_config.specs.Leases.{lease_rules_of}
use Rattle.paxos_spec.specs.declared.steps.AcceptStep.{AcceptStep}
use Rattle.paxos_spec.specs.declared.steps.AcceptStep.TheVariants as accept
use Rattle.paxos_spec.specs.declared.steps.ChosenStep.{ChosenStep}
use Rattle.paxos_spec.specs.declared.steps.ChosenStep.TheVariants as chosen
use Rattle.paxos_spec.specs.declared.steps.Counted.{Counted}
use Rattle.paxos_spec.specs.declared.steps.Counted.TheVariants as counted
use Rattle.paxos_spec.specs.Votes.{Value}
use Rattle.paxos_spec.specs.Acceptor.{reach, accept_step, chosen_step}
use Rattle.paxos_spec.specs.Leader.{lead_accepted}
use Rattle.paxos_spec.specs.Replica.{Out, is_next, on_fetch}
use Rattle.paxos_spec.specs.Replica as paxos
use Rattle.node_spec.specs.Turns.{Turn, drop_turn, also}
use Rattle.manager_spec.specs.Manager.{Manager, effects_of, agrees, hears}
use Rattle.manager_spec.specs.Orders.{orders}
use Rattle.manager_spec.specs.Proposal.{Half, stops, goes_on}

-- the Accept is for a slot that has its value, or the log is full
abbrev pub is_late_accept : AcceptStep → Bool
is_late_accept (accept.Refuse promised) = false
is_late_accept accept.Late = true
is_late_accept (accept.Behind length) = false
is_late_accept accept.Again = false
is_late_accept accept.Voted = false

-- Accept: a vote, a refusal, a fetch, or it is Late. A new vote is for a leader that was heard.
unfoldable pub on_accept : ConfigParts → Manager → ℕ → ℕ → ℕ → Value → Turn Manager
on_accept cfg r from ballot slot value =
    if is_late_accept (accept_step r.acceptor ballot slot value) then drop_turn r Late
    else hears (agrees cfg r (paxos.on_accept r.index r.acceptor r.memory from ballot slot value))

-- The third Accepted: the step of the agreement, and the command messages of what was learned.
unfoldable pub completes : ConfigParts → Manager → Out → Turn Manager
completes cfg r o = also (agrees cfg r o) (orders cfg (effects_of (lease_rules_of cfg) r.acceptor o.entry))

-- what an Accepted brought: nothing, one vote more, or the third
abbrev pub counts : ConfigParts → Manager → Out → Counted → Half
counts cfg r o counted.Late = stops (drop_turn r Late)
counts cfg r o counted.More = stops (agrees cfg r o)
counts cfg r o counted.Chosen = goes_on (completes cfg r o)

-- Accepted: it counts for the slot that comes next, or it is Late. The third one chooses, and a proposal follows.
unfoldable pub on_accepted : ConfigParts → Manager → ℕ → ℕ → ℕ → Half
on_accepted cfg r from ballot slot =
    if is_next r.acceptor slot
    then counts cfg r
    (paxos.on_accepted r.index r.acceptor r.memory from ballot slot)
    (lead_accepted r.memory.leader from ballot slot).1
    else stops (drop_turn r Late)

-- the Chosen is for a slot that has its value, or the log is full
abbrev pub is_late_chosen : ChosenStep → Bool
is_late_chosen chosen.Late = true
is_late_chosen (chosen.Behind length) = false
is_late_chosen chosen.Learned = false

-- Chosen: the value is learned, or the slot that comes next is fetched, or it is Late.
unfoldable pub on_chosen : ConfigParts → Manager → ℕ → ℕ → ℕ → Value → Turn Manager
on_chosen cfg r from slot ballot value =
    if is_late_chosen (chosen_step r.acceptor slot) then drop_turn r Late
    else hears (agrees cfg r (paxos.on_chosen r.index r.acceptor r.memory from slot ballot value))

-- Fetch: the value of the slot with its ballot, or it is Late.
unfoldable pub on_fetched : ConfigParts → Manager → ℕ → ℕ → Turn Manager
on_fetched cfg r from slot =
    if nat_lt slot (reach r.acceptor) then agrees cfg r (on_fetch r.index r.acceptor r.memory from slot)
    else drop_turn r Late
