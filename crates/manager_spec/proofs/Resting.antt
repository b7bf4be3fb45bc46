-- A follower has no acknowledgements and no queue, whatever came to it.
use Rattle.std.proofs.Common.{◌≡◌, refl, ℕ, true, false, Bool, List, [], ◌∷◌, ◌++◌, Option, Some, None, max}
use Rattle.std.specs.Prelude.{◌==◌, not, ◌&&◌, ◌||◌, nat_lt, nat_le, is_some, length, ◌*◌, ◌-◌}
use Rattle.wire_core.specs.Commands.{LogCommand, Reserve, Release, Up}
use Rattle.wire_core.specs.declared.address.Ip4.{Ip4}
use Rattle.wire_core.specs.declared.cause.DropCause.TheVariants.{Late, NotPrimary, NotMine, Unknown, Waiting, QueueFull}
use Rattle.wire_core.specs.declared.entry.Entry.{Entry}
use Rattle.wire_core.specs.declared.node.NodeId.{NodeId}
use Rattle.wire_core.specs.declared.node.NodeId.TheVariants.{Replica, Mux, Agent}
use Rattle.vip_config.specs.declared.parts.ConfigParts.{ConfigParts}
use Rattle.vip_config.specs.Leases.{lease_rules_of}
use Rattle.control_msg.specs.declared.message.Message.{Message}
use Rattle.control_msg.specs.declared.message.Message.TheVariants as message
use Rattle.lease_spec.specs.declared.effect.Effect.{Effect}
use Rattle.lease_spec.specs.declared.effect.Effect.TheVariants as effect
use Rattle.lease_spec.specs.declared.row.Row.{Row}
use Rattle.lease_spec.specs.declared.row.Outcome.{Outcome}
use Rattle.lease_spec.specs.declared.row.Outcome.TheVariants.{Reserved, Exhausted, AtLimit}
use Rattle.lease_spec.specs.Table.{Last, row_at, is_being, is_freeing, rule_of, known_boot, last_of, is_later}
use Rattle.paxos_spec.specs.declared.cast.Cast.{Cast}
use Rattle.paxos_spec.specs.declared.stage.Stage.{Stage}
use Rattle.paxos_spec.specs.declared.stage.Stage.TheVariants.{Follower, Candidate, Catching, Inheriting, Primary}
use Rattle.paxos_spec.specs.declared.steps.Counted.{Counted}
use Rattle.paxos_spec.specs.declared.steps.Counted.TheVariants as counted
use Rattle.paxos_spec.specs.Votes.{Value, cast}
use Rattle.paxos_spec.specs.Acceptor.{reach, kept, accept_step, chosen_step}
use Rattle.paxos_spec.specs.Leader.{is_follower, is_primary, lead_promise, lead_accepted}
use Rattle.paxos_spec.specs.Replica.{Out, is_next, may_propose, on_campaign}
use Rattle.node_spec.specs.Sends.{tell}
use Rattle.node_spec.specs.Turns.{Turn, Input, Arrived, Ticked, quiet, drop_turn, says}
use Rattle.node_spec.specs.Datagrams.{Heard, Refused, Told, Brought, heard, by_heard}
use Rattle.manager_spec.specs.declared.marks.Marks.{Marks}
use Rattle.manager_spec.specs.Manager.{Manager, opened_manager, leases, effects_of, rested, agrees, hears}
use Rattle.manager_spec.specs.Known.{peer, hear_mux, marks_at, set_marks}
use Rattle.manager_spec.specs.Orders.{after_effects}
use Rattle.manager_spec.specs.Proposal.{Half, stops, goes_on, first_due, filled, propose, whole}
use Rattle.manager_spec.specs.Leading.{on_prepare, is_late_promise, on_promise, on_refuse, on_lead}
use Rattle.manager_spec.specs.Voting.{is_late_accept, on_accept, completes, counts, on_accepted, is_late_chosen}
use Rattle.manager_spec.specs.Voting.{on_chosen, on_fetched}
use Rattle.manager_spec.specs.Clock.{leads, runs_for, on_tick}
use Rattle.manager_spec.specs.Muxes.{see_epoch, on_hello, on_mux_refuse, programmed_by, unprogrammed_by}
use Rattle.manager_spec.specs.Muxes.{on_ack}
use Rattle.manager_spec.specs.Agents.{is_waiting, most_queued, enqueue, grant_again, answer_again, ask_after, is_agents}
use Rattle.manager_spec.specs.Agents.{on_ask, returned, return_of, on_return, on_agent_up}
use Rattle.manager_spec.specs.ManagerTable.{refuses, from_replica, from_mux, from_agent, manager_hears, manager_takes}
use Rattle.manager_spec.specs.ManagerTable.{manager_half, manager_step}
use Rattle.manager_spec.specs.Agreement.{proposed}
use Rattle.manager_spec.specs.Footprints.{Rests}
use Rattle.manager_spec.proofs.Choices.{by_if}

abbrev After : Turn Manager → Type 0
After t = Rests t.state

abbrev Then : Half → Type 0
Then h = Rests h.turn.state

not_both : (s : Stage) → is_primary s ≡ true → is_follower s ≡ true → ⊥
not_both Follower p e = absurd (cc)
not_both Candidate p e = absurd (cc)
not_both Catching p e = absurd (cc)
not_both Inheriting p e = absurd (cc)
not_both Primary p e = absurd (cc)

primary_rests : (r : Manager) → is_primary r.memory.leader.stage ≡ true → Rests r
primary_rests r p e = absurd (not_both r.memory.leader.stage p e)

is_there : (b : Bool) → not b ≡ false → b ≡ true
is_there true e = refl
is_there false e = absurd (cc)

first_holds : (a b c : Bool) → (a && b && c) ≡ true → a ≡ true
first_holds true b c e = refl
first_holds false b c e = absurd (cc)

rested_rests : (r : Manager) → Rests (rested r)
rested_rests r e = rw e (refl, refl)

agreed_rests : (cfg : ConfigParts) (n : Manager) (o : Out) → After (agrees cfg n o)
unfolding agrees
agreed_rests cfg n o = rested_rests (record n { acceptor = kept n.acceptor o.entry; memory = o.memory })

heard_rests : (cfg : ConfigParts) (n : Manager) (o : Out) → After (hears (agrees cfg n o))
heard_rests cfg n o e = agreed_rests cfg n o e

-- ---- replicas

prepare_rests : (cfg : ConfigParts) (r : Manager) (from c : ℕ) → After (on_prepare cfg r from c)
unfolding on_prepare
prepare_rests cfg r from c = heard_rests cfg r _

promise_rests : (cfg : ConfigParts) (r : Manager) (from c length : ℕ) (vote : Cast) → Rests r
    → After (on_promise cfg r from c length vote)
unfolding on_promise
promise_rests cfg r from c length vote h =
    by_if After (is_late_promise (lead_promise r.memory.leader from c length vote (reach r.acceptor)).1)
    {x = drop_turn r Late} (λ _. h) (λ _. agreed_rests cfg r _)

refuse_rests : (cfg : ConfigParts) (r : Manager) (c p : ℕ) → Rests r → After (on_refuse cfg r c p)
unfolding on_refuse
refuse_rests cfg r c p h =
    by_if After (not (is_follower r.memory.leader.stage) && (r.memory.leader.ballot == c) && nat_lt c p)
    {y = drop_turn r Late} (λ _. agreed_rests cfg (record r { heard = r.time }) _) (λ _. h)

lead_rests : (cfg : ConfigParts) (r : Manager) (from c length : ℕ) → After (on_lead cfg r from c length)
unfolding on_lead
lead_rests cfg r from c length = agreed_rests cfg _ _

accept_rests : (cfg : ConfigParts) (r : Manager) (from c slot : ℕ) (v : Value) → Rests r
    → After (on_accept cfg r from c slot v)
unfolding on_accept
accept_rests cfg r from c slot v h = by_if After (is_late_accept (accept_step r.acceptor c slot v))
    {x = drop_turn r Late} (λ _. h) (λ _. heard_rests cfg r _)

-- without acknowledgements there is nothing to forget
nothing_left : (es : List Effect) → after_effects [] es ≡ []
unfolding after_effects
nothing_left [] = refl
nothing_left (effect.Reserved row ∷ es) = nothing_left es
nothing_left (effect.Exhausted machine boot seq place ∷ es) = nothing_left es
nothing_left (effect.AtLimit machine boot seq count ∷ es) = nothing_left es
nothing_left (effect.Granted row ∷ es) = nothing_left es
nothing_left (effect.Released row ∷ es) = nothing_left es
nothing_left (effect.Freed row ∷ es) = nothing_left es
nothing_left (effect.Known agent boot ∷ es) = nothing_left es
nothing_left (effect.Cleared row ∷ es) = nothing_left es

completes_rests : (cfg : ConfigParts) (r : Manager) (o : Out) → After (completes cfg r o)
unfolding completes
completes_rests cfg r o e =
    let h : ((agrees cfg r o).state.acks ≡ []) × ((agrees cfg r o).state.queue ≡ []) = agreed_rests cfg r o e in
    (rw h.0 (nothing_left (effects_of (lease_rules_of cfg) r.acceptor o.entry)), h.1)

counts_rests : (cfg : ConfigParts) (r : Manager) (o : Out) (k : Counted) → Rests r → Then (counts cfg r o k)
counts_rests cfg r o counted.Late h = h
counts_rests cfg r o counted.More h = agreed_rests cfg r o
counts_rests cfg r o counted.Chosen h = completes_rests cfg r o

accepted_rests : (cfg : ConfigParts) (r : Manager) (from c slot : ℕ) → Rests r → Then (on_accepted cfg r from c slot)
unfolding on_accepted
accepted_rests cfg r from c slot h = by_if Then (is_next r.acceptor slot) {y = stops (drop_turn r Late)}
    (λ _. counts_rests cfg r _ (lead_accepted r.memory.leader from c slot).1 h) (λ _. h)

chosen_rests : (cfg : ConfigParts) (r : Manager) (from slot c : ℕ) (v : Value) → Rests r
    → After (on_chosen cfg r from slot c v)
unfolding on_chosen
chosen_rests cfg r from slot c v h = by_if After (is_late_chosen (chosen_step r.acceptor slot)) {x = drop_turn r Late}
    (λ _. h) (λ _. heard_rests cfg r _)

fetch_rests : (cfg : ConfigParts) (r : Manager) (from slot : ℕ) → Rests r → After (on_fetched cfg r from slot)
unfolding on_fetched
fetch_rests cfg r from slot h = by_if After (nat_lt slot (reach r.acceptor)) {y = drop_turn r Late}
    (λ _. agreed_rests cfg r _) (λ _. h)

-- ---- the clock

runs_rests : (cfg : ConfigParts) (r : Manager) (o : Out) → Rests r → After (runs_for cfg r o)
runs_rests cfg r o h = by_if After (is_some o.entry) {y = quiet r} (λ _. heard_rests cfg _ o) (λ _. h)

tick_rests : (cfg : ConfigParts) (r : Manager) (now : ℕ) → Rests r → Then (on_tick cfg r now)
unfolding on_tick
tick_rests cfg r now h =
    let n : Manager = record r { time = max r.time now } in
    by_if Then (is_primary n.memory.leader.stage) {x = goes_on (leads cfg n)} (λ _. h)
    (λ _. by_if Then (nat_le cfg.timers.lead_silent (n.time - n.heard))
    {x = stops (runs_for cfg n (on_campaign n.index n.acceptor n.memory))} {y = stops (quiet n)}
    (λ _. runs_rests cfg n _ h) (λ _. h))

-- ---- muxes

hello_rests : (cfg : ConfigParts) (r : Manager) (mux boot epoch : ℕ) → Rests r → Then (on_hello cfg r mux boot epoch)
unfolding on_hello
hello_rests cfg r mux boot epoch h = by_if Then (nat_lt boot (peer r mux).boot) {x = stops (drop_turn r Late)}
    (λ _. h)
    (λ _. rested_rests (record (hear_mux r mux boot) { memory = see_epoch r.memory epoch }))

refusal_rests : (cfg : ConfigParts) (r : Manager) (mux boot epoch : ℕ) → Then (on_mux_refuse cfg r mux boot epoch)
unfolding on_mux_refuse
refusal_rests cfg r mux boot epoch =
    rested_rests (record (hear_mux r mux boot) { memory = see_epoch r.memory epoch })

ack_rests : (cfg : ConfigParts) (r : Manager) (with_one : Marks → ℕ → ℕ → Marks) (mux epoch boot n : ℕ) → Rests r
    → Then (on_ack cfg r with_one mux epoch boot n)
unfolding on_ack
ack_rests cfg r with_one mux epoch boot n h = by_if Then
    (is_primary r.memory.leader.stage && (r.memory.leader.ballot == epoch) && is_some (row_at (leases cfg r).rows n))
    {y = stops (drop_turn r Late)}
    (λ e. primary_rests
    (record (hear_mux r mux boot) { acks = set_marks r.acks n (with_one (marks_at r.acks n) mux boot) })
    (first_holds (is_primary r.memory.leader.stage) (r.memory.leader.ballot == epoch)
    (is_some (row_at (leases cfg r).rows n)) e))
    (λ _. h)

-- ---- agents

enqueue_rests : (r : Manager) (c : LogCommand) → is_primary r.memory.leader.stage ≡ true → Then (enqueue r c)
unfolding enqueue
enqueue_rests r c p = by_if Then (is_waiting r c) {x = stops (drop_turn r Waiting)} (λ _. primary_rests r p)
    (λ _. by_if Then (nat_le most_queued (length r.queue)) {x = stops (drop_turn r QueueFull)}
    (λ _. primary_rests r p) (λ _. primary_rests (record r { queue = r.queue ++ c ∷ [] }) p))

grant_rests : (r : Manager) (o : Option Row) → Rests r → Then (grant_again r o)
grant_rests r None h = h
grant_rests r (Some row) h = by_if Then (is_being row.phase) {x = stops (drop_turn r Waiting)} (λ _. h)
    (λ _. by_if Then (is_freeing row.phase) {x = stops (drop_turn r Late)} (λ _. h) (λ _. h))

again_rests : (cfg : ConfigParts) (r : Manager) (agent boot : ℕ) (machine : Ip4) (seq : ℕ) (o : Outcome) → Rests r
    → Then (answer_again cfg r agent boot machine seq o)
again_rests cfg r agent boot machine seq (Reserved range n) h = grant_rests r (row_at (leases cfg r).rows n) h
again_rests cfg r agent boot machine seq (Exhausted place) h = h
again_rests cfg r agent boot machine seq (AtLimit count) h = h

after_rests : (cfg : ConfigParts) (r : Manager) (agent boot : ℕ) (machine : Ip4) (seq : ℕ) (o : Option Last)
    → is_primary r.memory.leader.stage ≡ true → Then (ask_after cfg r agent boot machine seq o)
unfolding ask_after
after_rests cfg r agent boot machine seq None p = enqueue_rests r (Reserve agent boot machine seq) p
after_rests cfg r agent boot machine seq (Some last) p =
    by_if Then (is_later boot seq (Some last)) {x = enqueue r (Reserve agent boot machine seq)}
    (λ _. enqueue_rests r (Reserve agent boot machine seq) p)
    (λ _. by_if Then ((last.boot == boot) && (last.seq == seq)) {y = stops (drop_turn r Late)}
    (λ _. again_rests cfg r agent boot machine seq last.outcome (primary_rests r p)) (λ _. primary_rests r p))

ask_rests : (cfg : ConfigParts) (r : Manager) (agent boot : ℕ) (machine : Ip4) (seq : ℕ) → Rests r
    → Then (on_ask cfg r agent boot machine seq)
unfolding on_ask
ask_rests cfg r agent boot machine seq h =
    by_if Then (not (is_primary r.memory.leader.stage)) {x = stops (drop_turn r NotPrimary)} (λ _. h)
    (λ e. by_if Then (not (is_agents agent (rule_of (lease_rules_of cfg) machine))) {x = stops (drop_turn r NotMine)}
    (λ _. h)
    (λ _. by_if Then (nat_lt boot (known_boot (leases cfg r).known agent)) {x = stops (drop_turn r Late)} (λ _. h)
    (λ _. after_rests cfg r agent boot machine seq (last_of (leases cfg r).lasts machine)
    (is_there (is_primary r.memory.leader.stage) e))))

return_by : (r : Manager) (agent boot n : ℕ) (o : Option Row) → is_primary r.memory.leader.stage ≡ true
    → Then (return_of r agent boot n o)
return_by r agent boot n None p = primary_rests r p
return_by r agent boot n (Some row) p =
    by_if Then (not ((row.agent == agent) && (row.boot == boot))) {x = stops (drop_turn r NotMine)}
    (λ _. primary_rests r p)
    (λ _. by_if Then (is_freeing row.phase) {x = returned r agent boot n} {y = enqueue r (Release n)}
    (λ _. primary_rests r p) (λ _. enqueue_rests r (Release n) p))

return_rests : (cfg : ConfigParts) (r : Manager) (agent boot n : ℕ) → Rests r → Then (on_return cfg r agent boot n)
unfolding on_return
return_rests cfg r agent boot n h =
    by_if Then (not (is_primary r.memory.leader.stage)) {x = stops (drop_turn r NotPrimary)} (λ _. h)
    (λ e. by_if Then ((n == 0) || nat_lt (16 * reach r.acceptor) n) {x = stops (drop_turn r Unknown)} (λ _. h)
    (λ _. return_by r agent boot n (row_at (leases cfg r).rows n) (is_there (is_primary r.memory.leader.stage) e)))

up_rests : (cfg : ConfigParts) (r : Manager) (agent boot : ℕ) → Rests r → Then (on_agent_up cfg r agent boot)
unfolding on_agent_up
up_rests cfg r agent boot h =
    by_if Then (not (is_primary r.memory.leader.stage)) {x = stops (drop_turn r NotPrimary)} (λ _. h)
    (λ e. by_if Then (nat_lt boot (known_boot (leases cfg r).known agent)) {x = stops (drop_turn r Late)} (λ _. h)
    (λ _. by_if Then (boot == known_boot (leases cfg r).known agent)
    {x = goes_on (says r (tell (Agent agent) (message.AgentKnown boot) ∷ []))} {y = enqueue r (Up agent boot)}
    (λ _. h) (λ _. enqueue_rests r (Up agent boot) (is_there (is_primary r.memory.leader.stage) e))))

-- ---- an input

replica_rests : (cfg : ConfigParts) (r : Manager) (from : ℕ) (m : Message) → Rests r → Then (from_replica cfg r from m)
replica_rests cfg r from (message.Prepare c) h = prepare_rests cfg r from c
replica_rests cfg r from (message.Promise c length vote value) h = promise_rests cfg r from c length (cast vote value) h
replica_rests cfg r from (message.Accept c slot v) h = accept_rests cfg r from c slot v h
replica_rests cfg r from (message.Accepted c slot) h = accepted_rests cfg r from c slot h
replica_rests cfg r from (message.Refuse c p) h = refuse_rests cfg r c p h
replica_rests cfg r from (message.Chosen slot c v) h = chosen_rests cfg r from slot c v h
replica_rests cfg r from (message.Fetch slot) h = fetch_rests cfg r from slot h
replica_rests cfg r from (message.Lead c length) h = lead_rests cfg r from c length
replica_rests cfg r from _ h = h

mux_rests : (cfg : ConfigParts) (r : Manager) (mux : ℕ) (m : Message) → Rests r → Then (from_mux cfg r mux m)
mux_rests cfg r mux (message.MuxHello boot epoch) h = hello_rests cfg r mux boot epoch h
mux_rests cfg r mux (message.MuxRefuse epoch boot kept) h = refusal_rests cfg r mux boot kept
mux_rests cfg r mux (message.Programmed epoch boot n) h = ack_rests cfg r programmed_by mux epoch boot n h
mux_rests cfg r mux (message.Unprogrammed epoch boot n) h = ack_rests cfg r unprogrammed_by mux epoch boot n h
mux_rests cfg r mux _ h = h

agent_rests : (cfg : ConfigParts) (r : Manager) (agent : ℕ) (m : Message) → Rests r → Then (from_agent cfg r agent m)
agent_rests cfg r agent (message.Ask boot machine seq) h = ask_rests cfg r agent boot machine seq h
agent_rests cfg r agent (message.Return boot n) h = return_rests cfg r agent boot n h
agent_rests cfg r agent (message.AgentUp boot) h = up_rests cfg r agent boot h
agent_rests cfg r agent _ h = h

message_rests : (cfg : ConfigParts) (r : Manager) (from : NodeId) (m : Message) → Rests r
    → Then (manager_hears cfg r from m)
unfolding manager_hears
message_rests cfg r (Replica from) m h = replica_rests cfg r from m h
message_rests cfg r (Mux from) m h = mux_rests cfg r from m h
message_rests cfg r (Agent from) m h = agent_rests cfg r from m h

heard_by : (cfg : ConfigParts) (r : Manager) (x : Heard) → Rests r
    → Then (by_heard (refuses r) (manager_hears cfg r) (manager_takes r) x)
heard_by cfg r (Refused c) h = h
heard_by cfg r (Told from m) h = message_rests cfg r from m h
heard_by cfg r (Brought from packet) h = h

half_rests : (cfg : ConfigParts) (r : Manager) (input : Input) → Rests r → Then (manager_half cfg r input)
unfolding manager_half
half_rests cfg r (Arrived from bytes) h = heard_by cfg r (heard cfg from bytes) h
half_rests cfg r (Ticked now) h = tick_rests cfg r now h

propose_rests : (cfg : ConfigParts) (r : Manager) → Rests r → After (propose cfg r)
unfolding propose
propose_rests cfg r h = by_if After (may_propose r.acceptor r.memory.leader) {x = filled cfg r (first_due cfg r)}
    {y = quiet r}
    (λ _. by_if After (length (proposed cfg r) == 0) {x = quiet r} (λ _. h) (λ _. agreed_rests cfg _ _))
    (λ _. h)

whole_rests : (cfg : ConfigParts) (t : Turn Manager) (b : Bool) → Rests t.state
    → After (whole cfg (record { turn = t; proposes = b }))
unfolding whole
whole_rests cfg t true h = propose_rests cfg t.state h
whole_rests cfg t false h = h

pub turn_rests : (cfg : ConfigParts) (r : Manager) (input : Input) → Rests r → Rests (manager_step cfg r input).state
unfolding manager_step
turn_rests cfg r input h =
    whole_rests cfg (manager_half cfg r input).turn (manager_half cfg r input).proposes (half_rests cfg r input h)

pub opened_rests : (cfg : ConfigParts) (index : ℕ) (entries : List Entry) → Rests (opened_manager cfg index entries)
unfolding opened_manager
opened_rests cfg index entries e = (refl, refl)
