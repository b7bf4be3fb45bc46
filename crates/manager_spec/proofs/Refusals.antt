-- What is dropped leaves everything as it was.
use Rattle.std.proofs.Common.{◌≡◌, refl, inl, inr, ℕ, List, [], ◌∷◌, Option, Some, None, max}
use Rattle.std.specs.Prelude.{◌==◌, not, ◌&&◌, ◌||◌, nat_lt, nat_le, is_some, length, ◌*◌, ◌-◌}
use Rattle.wire_core.specs.Commands.{LogCommand, Reserve, Release, Up}
use Rattle.wire_core.specs.declared.address.Ip4.{Ip4}
use Rattle.wire_core.specs.declared.address.Socket.{Socket}
use Rattle.wire_core.specs.declared.cause.DropCause.{DropCause}
use Rattle.wire_core.specs.declared.cause.DropCause.TheVariants.{Late, NotPrimary, NotMine, Unknown, Waiting, QueueFull}
use Rattle.wire_core.specs.declared.cause.DropCause.TheVariants.{WrongRole}
use Rattle.wire_core.specs.declared.node.NodeId.{NodeId}
use Rattle.wire_core.specs.declared.node.NodeId.TheVariants.{Replica, Mux, Agent}
use Rattle.vip_config.specs.declared.parts.ConfigParts.{ConfigParts}
use Rattle.vip_config.specs.Leases.{lease_rules_of}
use Rattle.control_msg.specs.declared.message.Message.{Message}
use Rattle.control_msg.specs.declared.message.Message.TheVariants as message
use Rattle.lease_spec.specs.declared.row.Row.{Row}
use Rattle.lease_spec.specs.declared.row.Outcome.{Outcome}
use Rattle.lease_spec.specs.declared.row.Outcome.TheVariants.{Reserved, Exhausted, AtLimit}
use Rattle.lease_spec.specs.Table.{Last, row_at, is_being, is_freeing, rule_of, known_boot, last_of, is_later}
use Rattle.paxos_spec.specs.declared.cast.Cast.{Cast}
use Rattle.paxos_spec.specs.declared.steps.Counted.{Counted}
use Rattle.paxos_spec.specs.declared.steps.Counted.TheVariants as counted
use Rattle.paxos_spec.specs.Votes.{Value, cast}
use Rattle.paxos_spec.specs.Acceptor.{reach, accept_step, chosen_step}
use Rattle.paxos_spec.specs.Leader.{is_follower, is_primary, lead_promise, lead_accepted}
use Rattle.paxos_spec.specs.Replica.{Out, is_next, on_campaign}
use Rattle.node_spec.specs.Sends.{tell}
use Rattle.node_spec.specs.Turns.{Turn, Arrived, quiet, drop_turn, says}
use Rattle.node_spec.specs.Datagrams.{Heard, Refused, Told, Brought, heard, by_heard}
use Rattle.manager_spec.specs.declared.marks.Marks.{Marks}
use Rattle.manager_spec.specs.Manager.{Manager, leases, agrees, hears}
use Rattle.manager_spec.specs.Known.{peer}
use Rattle.manager_spec.specs.Proposal.{Half, stops, goes_on}
use Rattle.manager_spec.specs.Leading.{on_prepare, is_late_promise, on_promise, on_refuse, on_lead}
use Rattle.manager_spec.specs.Voting.{is_late_accept, on_accept, completes, counts, on_accepted, is_late_chosen}
use Rattle.manager_spec.specs.Voting.{on_chosen, on_fetched}
use Rattle.manager_spec.specs.Clock.{leads, runs_for, on_tick}
use Rattle.manager_spec.specs.Muxes.{on_hello, on_mux_refuse, programmed_by, unprogrammed_by, on_ack}
use Rattle.manager_spec.specs.Agents.{is_waiting, most_queued, enqueue, grant_again, answer_again, ask_after, is_agents}
use Rattle.manager_spec.specs.Agents.{on_ask, returned, return_of, on_return, on_agent_up}
use Rattle.manager_spec.specs.ManagerTable.{refuses, from_replica, from_mux, from_agent, manager_hears, manager_takes}
use Rattle.manager_spec.specs.ManagerTable.{manager_half}
use Rattle.manager_spec.specs.Footprints.{DropsOrNot}
use Rattle.manager_spec.proofs.Choices.{by_if}

drops : (r : Manager) (c : DropCause) → DropsOrNot r (refuses r c)
drops r c = inr (c, refl)

-- of a row without a proposal
abbrev Of : Manager → Turn Manager → Type 0
Of r t = DropsOrNot r (stops t)

agreed : (cfg : ConfigParts) (r n : Manager) (o : Out) → Of r (agrees cfg n o)
unfolding agrees
agreed cfg r n o = inl refl

heard_of : (cfg : ConfigParts) (r n : Manager) (o : Out) → Of r (hears (agrees cfg n o))
unfolding agrees
heard_of cfg r n o = inl refl

-- ---- replicas

prepare_drops : (cfg : ConfigParts) (r : Manager) (from c : ℕ) → Of r (on_prepare cfg r from c)
unfolding on_prepare
prepare_drops cfg r from c = heard_of cfg r r _

promise_drops : (cfg : ConfigParts) (r : Manager) (from c length : ℕ) (vote : Cast)
    → Of r (on_promise cfg r from c length vote)
unfolding on_promise
promise_drops cfg r from c length vote =
    by_if (Of r) (is_late_promise (lead_promise r.memory.leader from c length vote (reach r.acceptor)).1)
    {x = drop_turn r Late} (λ _. drops r Late) (λ _. agreed cfg r r _)

refuse_drops : (cfg : ConfigParts) (r : Manager) (c p : ℕ) → Of r (on_refuse cfg r c p)
unfolding on_refuse
refuse_drops cfg r c p =
    by_if (Of r) (not (is_follower r.memory.leader.stage) && (r.memory.leader.ballot == c) && nat_lt c p)
    {y = drop_turn r Late} (λ _. agreed cfg r (record r { heard = r.time }) _) (λ _. drops r Late)

lead_drops : (cfg : ConfigParts) (r : Manager) (from c length : ℕ) → Of r (on_lead cfg r from c length)
unfolding on_lead
lead_drops cfg r from c length = agreed cfg r _ _

accept_drops : (cfg : ConfigParts) (r : Manager) (from c slot : ℕ) (v : Value) → Of r (on_accept cfg r from c slot v)
unfolding on_accept
accept_drops cfg r from c slot v = by_if (Of r) (is_late_accept (accept_step r.acceptor c slot v))
    {x = drop_turn r Late}
    (λ _. drops r Late) (λ _. heard_of cfg r r _)

completed : (cfg : ConfigParts) (r : Manager) (o : Out) → DropsOrNot r (goes_on (completes cfg r o))
unfolding completes agrees
completed cfg r o = inl refl

counted_drops : (cfg : ConfigParts) (r : Manager) (o : Out) (k : Counted) → DropsOrNot r (counts cfg r o k)
counted_drops cfg r o counted.Late = drops r Late
counted_drops cfg r o counted.More = agreed cfg r r o
counted_drops cfg r o counted.Chosen = completed cfg r o

accepted_drops : (cfg : ConfigParts) (r : Manager) (from c slot : ℕ) → DropsOrNot r (on_accepted cfg r from c slot)
unfolding on_accepted
accepted_drops cfg r from c slot = by_if (DropsOrNot r) (is_next r.acceptor slot) {y = stops (drop_turn r Late)}
    (λ _. counted_drops cfg r _ (lead_accepted r.memory.leader from c slot).1) (λ _. drops r Late)

chosen_drops : (cfg : ConfigParts) (r : Manager) (from slot c : ℕ) (v : Value) → Of r (on_chosen cfg r from slot c v)
unfolding on_chosen
chosen_drops cfg r from slot c v = by_if (Of r) (is_late_chosen (chosen_step r.acceptor slot)) {x = drop_turn r Late}
    (λ _. drops r Late) (λ _. heard_of cfg r r _)

fetch_drops : (cfg : ConfigParts) (r : Manager) (from slot : ℕ) → Of r (on_fetched cfg r from slot)
unfolding on_fetched
fetch_drops cfg r from slot = by_if (Of r) (nat_lt slot (reach r.acceptor)) {y = drop_turn r Late}
    (λ _. agreed cfg r r _) (λ _. drops r Late)

-- ---- the clock

runs_drops : (cfg : ConfigParts) (r : Manager) (o : Out) → (runs_for cfg r o).notes ≡ []
unfolding agrees
runs_drops cfg r o = by_if (λ (t : Turn Manager). t.notes ≡ []) (is_some o.entry) {y = quiet r} (λ _. refl) (λ _. refl)

-- a tick is never dropped
pub tick_notes : (cfg : ConfigParts) (r : Manager) (now : ℕ) → (on_tick cfg r now).turn.notes ≡ []
unfolding on_tick
tick_notes cfg r now =
    let n : Manager = record r { time = max r.time now } in
    by_if (λ (h : Half). h.turn.notes ≡ []) (is_primary n.memory.leader.stage) {x = goes_on (leads cfg n)} (λ _. refl)
    (λ _. by_if (λ (h : Half). h.turn.notes ≡ []) (nat_le cfg.timers.lead_silent (n.time - n.heard))
    {x = stops (runs_for cfg n (on_campaign n.index n.acceptor n.memory))} {y = stops (quiet n)}
    (λ _. runs_drops cfg n _) (λ _. refl))

-- ---- muxes

hello_drops : (cfg : ConfigParts) (r : Manager) (mux boot epoch : ℕ) → DropsOrNot r (on_hello cfg r mux boot epoch)
unfolding on_hello
hello_drops cfg r mux boot epoch = by_if (DropsOrNot r) (nat_lt boot (peer r mux).boot) {x = stops (drop_turn r Late)}
    (λ _. drops r Late) (λ _. inl refl)

refusal_drops : (cfg : ConfigParts) (r : Manager) (mux boot epoch : ℕ)
    → DropsOrNot r (on_mux_refuse cfg r mux boot epoch)
unfolding on_mux_refuse
refusal_drops cfg r mux boot epoch = inl refl

ack_drops : (cfg : ConfigParts) (r : Manager) (with_one : Marks → ℕ → ℕ → Marks) (mux epoch boot n : ℕ)
    → DropsOrNot r (on_ack cfg r with_one mux epoch boot n)
unfolding on_ack
ack_drops cfg r with_one mux epoch boot n = by_if (DropsOrNot r)
    (is_primary r.memory.leader.stage && (r.memory.leader.ballot == epoch) && is_some (row_at (leases cfg r).rows n))
    {y = stops (drop_turn r Late)} (λ _. inl refl) (λ _. drops r Late)

-- ---- agents

enqueue_drops : (r : Manager) (c : LogCommand) → DropsOrNot r (enqueue r c)
unfolding enqueue
enqueue_drops r c = by_if (DropsOrNot r) (is_waiting r c) {x = stops (drop_turn r Waiting)} (λ _. drops r Waiting)
    (λ _. by_if (DropsOrNot r) (nat_le most_queued (length r.queue)) {x = stops (drop_turn r QueueFull)}
    (λ _. drops r QueueFull) (λ _. inl refl))

grant_drops : (r : Manager) (o : Option Row) → DropsOrNot r (grant_again r o)
grant_drops r None = drops r Late
grant_drops r (Some row) = by_if (DropsOrNot r) (is_being row.phase) {x = stops (drop_turn r Waiting)}
    (λ _. drops r Waiting)
    (λ _. by_if (DropsOrNot r) (is_freeing row.phase) {x = stops (drop_turn r Late)} (λ _. drops r Late)
    (λ _. inl refl))

again_drops : (cfg : ConfigParts) (r : Manager) (agent boot : ℕ) (machine : Ip4) (seq : ℕ) (o : Outcome)
    → DropsOrNot r (answer_again cfg r agent boot machine seq o)
again_drops cfg r agent boot machine seq (Reserved range n) = grant_drops r (row_at (leases cfg r).rows n)
again_drops cfg r agent boot machine seq (Exhausted place) = inl refl
again_drops cfg r agent boot machine seq (AtLimit count) = inl refl

after_drops : (cfg : ConfigParts) (r : Manager) (agent boot : ℕ) (machine : Ip4) (seq : ℕ) (o : Option Last)
    → DropsOrNot r (ask_after cfg r agent boot machine seq o)
unfolding ask_after
after_drops cfg r agent boot machine seq None = enqueue_drops r (Reserve agent boot machine seq)
after_drops cfg r agent boot machine seq (Some last) =
    by_if (DropsOrNot r) (is_later boot seq (Some last)) {x = enqueue r (Reserve agent boot machine seq)}
    (λ _. enqueue_drops r (Reserve agent boot machine seq))
    (λ _. by_if (DropsOrNot r) ((last.boot == boot) && (last.seq == seq)) {y = stops (drop_turn r Late)}
    (λ _. again_drops cfg r agent boot machine seq last.outcome) (λ _. drops r Late))

ask_drops : (cfg : ConfigParts) (r : Manager) (agent boot : ℕ) (machine : Ip4) (seq : ℕ)
    → DropsOrNot r (on_ask cfg r agent boot machine seq)
unfolding on_ask
ask_drops cfg r agent boot machine seq =
    by_if (DropsOrNot r) (not (is_primary r.memory.leader.stage)) {x = stops (drop_turn r NotPrimary)}
    (λ _. drops r NotPrimary)
    (λ _. by_if (DropsOrNot r) (not (is_agents agent (rule_of (lease_rules_of cfg) machine)))
    {x = stops (drop_turn r NotMine)} (λ _. drops r NotMine)
    (λ _. by_if (DropsOrNot r) (nat_lt boot (known_boot (leases cfg r).known agent)) {x = stops (drop_turn r Late)}
    (λ _. drops r Late)
    (λ _. after_drops cfg r agent boot machine seq (last_of (leases cfg r).lasts machine))))

return_by : (r : Manager) (agent boot n : ℕ) (o : Option Row) → DropsOrNot r (return_of r agent boot n o)
return_by r agent boot n None = inl refl
return_by r agent boot n (Some row) =
    by_if (DropsOrNot r) (not ((row.agent == agent) && (row.boot == boot))) {x = stops (drop_turn r NotMine)}
    (λ _. drops r NotMine)
    (λ _. by_if (DropsOrNot r) (is_freeing row.phase) {x = returned r agent boot n} {y = enqueue r (Release n)}
    (λ _. inl refl) (λ _. enqueue_drops r (Release n)))

return_drops : (cfg : ConfigParts) (r : Manager) (agent boot n : ℕ) → DropsOrNot r (on_return cfg r agent boot n)
unfolding on_return
return_drops cfg r agent boot n =
    by_if (DropsOrNot r) (not (is_primary r.memory.leader.stage)) {x = stops (drop_turn r NotPrimary)}
    (λ _. drops r NotPrimary)
    (λ _. by_if (DropsOrNot r) ((n == 0) || nat_lt (16 * reach r.acceptor) n) {x = stops (drop_turn r Unknown)}
    (λ _. drops r Unknown)
    (λ _. return_by r agent boot n (row_at (leases cfg r).rows n)))

up_drops : (cfg : ConfigParts) (r : Manager) (agent boot : ℕ) → DropsOrNot r (on_agent_up cfg r agent boot)
unfolding on_agent_up
up_drops cfg r agent boot =
    by_if (DropsOrNot r) (not (is_primary r.memory.leader.stage)) {x = stops (drop_turn r NotPrimary)}
    (λ _. drops r NotPrimary)
    (λ _. by_if (DropsOrNot r) (nat_lt boot (known_boot (leases cfg r).known agent)) {x = stops (drop_turn r Late)}
    (λ _. drops r Late)
    (λ _. by_if (DropsOrNot r) (boot == known_boot (leases cfg r).known agent)
    {x = goes_on (says r (tell (Agent agent) (message.AgentKnown boot) ∷ []))} {y = enqueue r (Up agent boot)}
    (λ _. inl refl) (λ _. enqueue_drops r (Up agent boot))))

-- ---- a datagram

replica_drops : (cfg : ConfigParts) (r : Manager) (from : ℕ) (m : Message) → DropsOrNot r (from_replica cfg r from m)
replica_drops cfg r from (message.Prepare c) = prepare_drops cfg r from c
replica_drops cfg r from (message.Promise c length vote value) = promise_drops cfg r from c length (cast vote value)
replica_drops cfg r from (message.Accept c slot v) = accept_drops cfg r from c slot v
replica_drops cfg r from (message.Accepted c slot) = accepted_drops cfg r from c slot
replica_drops cfg r from (message.Refuse c p) = refuse_drops cfg r c p
replica_drops cfg r from (message.Chosen slot c v) = chosen_drops cfg r from slot c v
replica_drops cfg r from (message.Fetch slot) = fetch_drops cfg r from slot
replica_drops cfg r from (message.Lead c length) = lead_drops cfg r from c length
replica_drops cfg r from _ = drops r WrongRole

mux_drops : (cfg : ConfigParts) (r : Manager) (mux : ℕ) (m : Message) → DropsOrNot r (from_mux cfg r mux m)
mux_drops cfg r mux (message.MuxHello boot epoch) = hello_drops cfg r mux boot epoch
mux_drops cfg r mux (message.MuxRefuse epoch boot kept) = refusal_drops cfg r mux boot kept
mux_drops cfg r mux (message.Programmed epoch boot n) = ack_drops cfg r programmed_by mux epoch boot n
mux_drops cfg r mux (message.Unprogrammed epoch boot n) = ack_drops cfg r unprogrammed_by mux epoch boot n
mux_drops cfg r mux _ = drops r WrongRole

agent_drops : (cfg : ConfigParts) (r : Manager) (agent : ℕ) (m : Message) → DropsOrNot r (from_agent cfg r agent m)
agent_drops cfg r agent (message.Ask boot machine seq) = ask_drops cfg r agent boot machine seq
agent_drops cfg r agent (message.Return boot n) = return_drops cfg r agent boot n
agent_drops cfg r agent (message.AgentUp boot) = up_drops cfg r agent boot
agent_drops cfg r agent _ = drops r WrongRole

message_drops : (cfg : ConfigParts) (r : Manager) (from : NodeId) (m : Message)
    → DropsOrNot r (manager_hears cfg r from m)
unfolding manager_hears
message_drops cfg r (Replica from) m = replica_drops cfg r from m
message_drops cfg r (Mux from) m = mux_drops cfg r from m
message_drops cfg r (Agent from) m = agent_drops cfg r from m

heard_drops : (cfg : ConfigParts) (r : Manager) (x : Heard)
    → DropsOrNot r (by_heard (refuses r) (manager_hears cfg r) (manager_takes r) x)
heard_drops cfg r (Refused c) = drops r c
heard_drops cfg r (Told from m) = message_drops cfg r from m
heard_drops cfg r (Brought from packet) = drops r WrongRole

pub datagram_drops : (cfg : ConfigParts) (r : Manager) (from : Socket) (bytes : List ℕ)
    → DropsOrNot r (manager_half cfg r (Arrived from bytes))
unfolding manager_half
datagram_drops cfg r from bytes = heard_drops cfg r (heard cfg from bytes)
