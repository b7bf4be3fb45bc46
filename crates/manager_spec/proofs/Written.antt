-- What a manager writes has allowed fields.
use Rattle.std.proofs.Common.{◌≡◌, refl, sym, subst, ℕ, ◌<◌, ◌^◌, max, Bool, true, false, List, Option, Some, None, arith}
use Rattle.std.specs.Prelude.{IfSome, if◌then◌else◌, not, ◌==◌, ◌&&◌, ◌||◌, nat_lt, nat_le, length, slice_get}
use Rattle.std.proofs.lemmas.Bool.Decides.{nat_tests}
use Rattle.wire_core.specs.Commands.{IsValue}
use Rattle.wire_core.specs.Entries.{IsEntry}
use Rattle.wire_core.specs.Steps.{first_of}
use Rattle.wire_core.specs.declared.entry.Entry.{Entry}
use Rattle.wire_core.specs.declared.node.NodeId.{NodeId}
use Rattle.wire_core.specs.declared.node.NodeId.TheVariants as node
use Rattle.control_msg.specs.Messages.{IsMessage, IsNumber}
use Rattle.control_msg.specs.declared.message.Message.{Message}
use Rattle.control_msg.specs.declared.message.Message.TheVariants as message
use Rattle.vip_config.specs.declared.parts.ConfigParts.{ConfigParts}
use Rattle.paxos_spec.specs.declared.cast.Cast.{Cast}
use Rattle.paxos_spec.specs.declared.cast.Proposal.{Proposal}
use Rattle.paxos_spec.specs.declared.steps.PrepareStep.{PrepareStep}
use Rattle.paxos_spec.specs.declared.steps.AcceptStep.{AcceptStep}
use Rattle.paxos_spec.specs.declared.steps.ChosenStep.{ChosenStep}
use Rattle.paxos_spec.specs.declared.steps.LeadStep.{LeadStep}
use Rattle.paxos_spec.specs.declared.steps.LeadStep.TheVariants as lead
use Rattle.paxos_spec.specs.declared.steps.PrepareStep.TheVariants as prepare
use Rattle.paxos_spec.specs.declared.steps.AcceptStep.TheVariants as accept
use Rattle.paxos_spec.specs.declared.steps.ChosenStep.TheVariants as chosen
use Rattle.paxos_spec.specs.declared.steps.Counted.{Counted}
use Rattle.paxos_spec.specs.declared.steps.Counted.TheVariants as counted
use Rattle.paxos_spec.specs.Votes.{Value, cast}
use Rattle.paxos_spec.specs.Five.{next_ballot}
use Rattle.paxos_spec.specs.Acceptor.{AcceptorState, reach, prepare_step, accept_step, chosen_step}
use Rattle.paxos_spec.specs.Leader.{LeaderState, is_follower, is_primary, value_out, lead_promise, lead_accepted, campaign}
use Rattle.paxos_spec.specs.Replica.{Memory, Out, quiet, prepared, on_prepare, led, on_promise, accepted, on_accept, is_next, tallied_out, on_accepted, on_refuse, onwards, learned, on_chosen, fetched, on_fetch, on_campaign}
use Rattle.node_spec.specs.Arriving.{IsAllowed, IsInBytes}
use Rattle.node_spec.specs.Datagrams.{Heard, Refused, Told, Brought, heard, by_heard}
use Rattle.node_spec.specs.Turns.{Input, Arrived, Ticked, Turn, also}
use Rattle.node_spec.proofs.Spelled.{heard_allowed}
use Rattle.manager_spec.specs.Agreement.{IsStep, message_step, replica_step, tick_step}
use Rattle.manager_spec.specs.Clock.{on_tick}
use Rattle.manager_spec.specs.Leading.{led as lead_led}
use Rattle.manager_spec.specs.Manager.{Manager}
use Rattle.manager_spec.specs.ManagerTable.{refuses, manager_hears, manager_takes, manager_half, manager_step}
use Rattle.manager_spec.specs.Proposal.{Half, propose, whole}
use Rattle.manager_spec.proofs.AgreedRows.{tick_is}
use Rattle.manager_spec.proofs.Choices.{by_if}
use Rattle.manager_spec.proofs.LeasedRows.{message_is}
use Rattle.manager_spec.proofs.Leaves.{proposal_leaves}

-- the entry, if there is one, has allowed fields
abbrev MayBe : Option Entry → Type 0
MayBe e = IfSome e IsEntry

-- the same of a step of the agreement
abbrev Writes : Out → Type 0
Writes o = MayBe o.entry

-- what is outstanding is a value
abbrev pub HasValueOut : Manager → Type 0
HasValueOut r = IfSome (value_out r.memory.leader.out) IsValue

-- ---- messages of the agreement

prepare_writes : (me : ℕ) (a : AcceptorState) (m : Memory) (from ballot : ℕ) → IsNumber ballot
    → Writes (on_prepare me a m from ballot)
unfolding on_prepare
prepare_writes me a m from ballot is = by_step (prepare_step a ballot)
  where
    by_step : (s : PrepareStep) → Writes (prepared me a m from ballot s)
    by_step (prepare.Refuse promised) = tt
    by_step prepare.Again = tt
    by_step prepare.Promise = is

promise_writes : (me : ℕ) (a : AcceptorState) (m : Memory) (from ballot length : ℕ) (vote : Cast)
    → Writes (on_promise me a m from ballot length vote)
unfolding on_promise
promise_writes me a m from ballot length vote =
    by_step (lead_promise m.leader from ballot length vote (reach a)).0
    (lead_promise m.leader from ballot length vote (reach a)).1
  where
    by_step : (l : LeaderState) (s : LeadStep) → Writes (led me (reach a) m l s)
    by_step l lead.Late = tt
    by_step l lead.More = tt
    by_step l (lead.Catch source slot) = tt
    by_step l lead.Inherit = tt
    by_step l lead.Ready = tt

accept_writes : (me : ℕ) (a : AcceptorState) (m : Memory) (from ballot slot : ℕ) (v : Value) → IsNumber ballot
    → IsValue v → Writes (on_accept me a m from ballot slot v)
unfolding on_accept
accept_writes me a m from ballot slot v number value = by_step (accept_step a ballot slot v)
  where
    by_step : (s : AcceptStep) → Writes (accepted me m from ballot slot v s)
    by_step (accept.Refuse promised) = tt
    by_step accept.Late = tt
    by_step (accept.Behind length) = tt
    by_step accept.Again = tt
    by_step accept.Voted = (number, value)

-- the third one learns what is outstanding
accepted_writes : (me : ℕ) (a : AcceptorState) (m : Memory) (from ballot slot : ℕ) → IsNumber ballot
    → IfSome (value_out m.leader.out) IsValue → Writes (on_accepted me a m from ballot slot)
unfolding on_accepted
accepted_writes me a m from ballot slot number value = by_if Writes (is_next a slot) {y = quiet m}
    (λ _. by_step (value_out m.leader.out) (lead_accepted m.leader from ballot slot).0
    (lead_accepted m.leader from ballot slot).1 value)
    (λ _. tt)
  where
    by_step : (out : Option Value) (l : LeaderState) (s : Counted) → IfSome out IsValue
        → Writes (tallied_out me m ballot slot out l s)
    by_step out l counted.Late is = tt
    by_step out l counted.More is = tt
    by_step None l counted.Chosen is = tt
    by_step (Some v) l counted.Chosen is = (number, is)

refuse_writes : (m : Memory) (ballot promised : ℕ) → Writes (on_refuse m ballot promised)
unfolding on_refuse
refuse_writes m ballot promised =
    by_if Writes (not (is_follower m.leader.stage) && (m.leader.ballot == ballot) && nat_lt ballot promised)
    {y = quiet m} (λ _. tt) (λ _. tt)

chosen_writes : (me : ℕ) (a : AcceptorState) (m : Memory) (from slot ballot : ℕ) (v : Value) → IsNumber ballot
    → IsValue v → Writes (on_chosen me a m from slot ballot v)
unfolding on_chosen
chosen_writes me a m from slot ballot v number value = by_step (chosen_step a slot)
  where
    by_step : (s : ChosenStep) → Writes (learned me a m from slot ballot v s)
    by_step chosen.Late = tt
    by_step (chosen.Behind length) = tt
    by_step chosen.Learned = (number, value)

fetch_writes : (me : ℕ) (a : AcceptorState) (m : Memory) (from slot : ℕ) → Writes (on_fetch me a m from slot)
fetch_writes me a m from slot = by_cast (slice_get a.log slot)
  where
    by_cast : (x : Option Cast) → Writes (fetched me m from slot x)
    by_cast None = tt
    by_cast (Some x) = tt

lead_writes : (r : Manager) (from ballot length : ℕ) → Writes (lead_led r from ballot length)
lead_writes r from ballot length = grind arith

campaign_writes : (me : ℕ) (a : AcceptorState) (m : Memory) → Writes (on_campaign me a m)
unfolding on_campaign
campaign_writes me a m = grind (arith, nat_tests)

-- ---- rows

replica_writes : (r : Manager) (from : ℕ) (x : Message) → IsMessage x → HasValueOut r
    → Writes (replica_step r from x)
replica_writes r from (message.Prepare ballot) is out = prepare_writes r.index r.acceptor r.memory from ballot is
replica_writes r from (message.Promise ballot length vote value) is out =
    promise_writes r.index r.acceptor r.memory from ballot length (cast vote value)
replica_writes r from (message.Accept ballot slot value) is out =
    accept_writes r.index r.acceptor r.memory from ballot slot value is.0 is.2
replica_writes r from (message.Accepted ballot slot) is out =
    accepted_writes r.index r.acceptor r.memory from ballot slot is.0 out
replica_writes r from (message.Refuse ballot promised) is out = refuse_writes r.memory ballot promised
replica_writes r from (message.Chosen slot ballot value) is out =
    chosen_writes r.index r.acceptor r.memory from slot ballot value is.1 is.2
replica_writes r from (message.Fetch slot) is out = fetch_writes r.index r.acceptor r.memory from slot
replica_writes r from (message.Lead ballot length) is out = lead_writes r from ballot length
replica_writes r from (message.Ask boot machine seq) is out = tt
replica_writes r from (message.Grant boot machine seq n vip start) is out = tt
replica_writes r from (message.Denied boot machine seq reason number) is out = tt
replica_writes r from (message.Return boot n) is out = tt
replica_writes r from (message.Returned boot n) is out = tt
replica_writes r from (message.AgentUp boot) is out = tt
replica_writes r from (message.AgentKnown boot) is out = tt
replica_writes r from (message.MuxHello boot epoch) is out = tt
replica_writes r from (message.Program epoch boot n vip start machine) is out = tt
replica_writes r from (message.Programmed epoch boot n) is out = tt
replica_writes r from (message.Unprogram epoch boot n vip start) is out = tt
replica_writes r from (message.Unprogrammed epoch boot n) is out = tt
replica_writes r from (message.MuxRefuse epoch boot kept) is out = tt
replica_writes r from (message.RedirectAsk src sport dst dport machine) is out = tt
replica_writes r from (message.Redirect side n src sport dst dport opener server) is out = tt

message_writes : (r : Manager) (from : NodeId) (x : Message) → IsMessage x → HasValueOut r
    → Writes (message_step r from x)
message_writes r (node.Replica from) x is out = replica_writes r from x is out
message_writes r (node.Mux from) x is out = tt
message_writes r (node.Agent from) x is out = tt

tick_writes : (cfg : ConfigParts) (r : Manager) (now : ℕ) → Writes (tick_step cfg r now)
tick_writes cfg r now = grind (arith, campaign_writes)

-- ---- turns

step_writes : (cfg : ConfigParts) (r : Manager) (t : Turn Manager) (o : Out) → IsStep cfg r t o → Writes o
    → MayBe t.entry
step_writes cfg r t o is writes = subst MayBe (sym is.entry) writes

heard_writes : (cfg : ConfigParts) (r : Manager) (x : Heard) → IsAllowed x → HasValueOut r
    → MayBe (by_heard (refuses r) (manager_hears cfg r) (manager_takes r) x).turn.entry
heard_writes cfg r (Refused cause) is out = tt
heard_writes cfg r (Told from m) is out =
    step_writes cfg r _ _ (message_is cfg r from m) (message_writes r from m is out)
heard_writes cfg r (Brought sender packet) is out = tt

half_writes : (cfg : ConfigParts) (r : Manager) (x : Input) → IsInBytes x → HasValueOut r
    → MayBe (manager_half cfg r x).turn.entry
unfolding manager_half
half_writes cfg r (Arrived from bytes) is out =
    heard_writes cfg r (heard cfg from bytes) (heard_allowed cfg from bytes is) out
half_writes cfg r (Ticked now) is out = step_writes cfg r _ _ (tick_is cfg r now) (tick_writes cfg r now)

first_none : (e : Option Entry) → first_of e None ≡ e
first_none None = refl
first_none (Some e) = refl

whole_writes : (cfg : ConfigParts) (t : Turn Manager) (b : Bool) → MayBe t.entry
    → MayBe (if b then also t (propose cfg) else t).entry
whole_writes cfg t false is = is
whole_writes cfg t true is = rw ((proposal_leaves cfg t.state).entry, first_none t.entry) is

pub turn_writes : (cfg : ConfigParts) (r : Manager) (x : Input) → IsInBytes x → HasValueOut r
    → IfSome (manager_step cfg r x).entry IsEntry
unfolding manager_step whole
turn_writes cfg r x is out =
    whole_writes cfg (manager_half cfg r x).turn (manager_half cfg r x).proposes (half_writes cfg r x is out)
