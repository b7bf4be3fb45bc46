-- Each row is one step of the agreement: rows of muxes and agents, where it is a quiet one, and the proposal.
use Rattle.std.proofs.Common.{◌≡◌, refl, ℕ, false, List, [], ◌∷◌, ◌++◌, Option, Some, None, drop}
use Rattle.std.specs.Prelude.{if◌then◌else◌, ◌==◌, not, ◌&&◌, ◌||◌, nat_lt, nat_le, is_some, length, ◌*◌, ◌-◌}
use Rattle.wire_core.specs.Commands.{LogCommand, Reserve, Release, Up}
use Rattle.wire_core.specs.declared.address.Ip4.{Ip4}
use Rattle.wire_core.specs.declared.cause.DropCause.TheVariants.{Late, NotPrimary, NotMine, Unknown, Waiting, QueueFull}
use Rattle.wire_core.specs.declared.node.NodeId.{NodeId}
use Rattle.wire_core.specs.declared.node.NodeId.TheVariants.{Replica, Mux, Agent}
use Rattle.vip_config.specs.declared.parts.ConfigParts.{ConfigParts}
use Rattle.vip_config.specs.Leases.{lease_rules_of}
use Rattle.control_msg.specs.declared.message.Message.{Message}
use Rattle.control_msg.specs.declared.message.Message.TheVariants as message
use Rattle.lease_spec.specs.declared.row.Row.{Row}
use Rattle.lease_spec.specs.declared.row.Outcome.{Outcome}
use Rattle.lease_spec.specs.declared.row.Outcome.TheVariants.{Reserved, Exhausted, AtLimit}
use Rattle.lease_spec.specs.Table.{Last, row_at, is_being, is_freeing, rule_of, known_boot, last_of, is_later}
use Rattle.paxos_spec.specs.Acceptor.{reach}
use Rattle.paxos_spec.specs.Leader.{is_primary}
use Rattle.paxos_spec.specs.Replica.{Memory, quiet as still, may_propose, on_offer}
use Rattle.node_spec.specs.Sends.{tell}
use Rattle.node_spec.specs.Turns.{quiet, drop_turn, says}
use Rattle.manager_spec.specs.declared.marks.Marks.{Marks}
use Rattle.manager_spec.specs.Manager.{Manager, leases}
use Rattle.manager_spec.specs.Known.{peer, hear_mux, marks_at, set_marks}
use Rattle.manager_spec.specs.Orders.{grant_of}
use Rattle.manager_spec.specs.Proposal.{Half, stops, goes_on, first_due, filled, propose}
use Rattle.manager_spec.specs.Muxes.{see_epoch, hear_epoch, on_hello, on_mux_refuse, programmed_by, unprogrammed_by}
use Rattle.manager_spec.specs.Muxes.{on_ack}
use Rattle.manager_spec.specs.Agents.{is_waiting, most_queued, enqueue, grant_again, answer_again, ask_after, is_agents}
use Rattle.manager_spec.specs.Agents.{on_ask, returned, return_of, on_return, on_agent_up}
use Rattle.manager_spec.specs.ManagerTable.{from_replica, from_mux, from_agent, manager_hears}
use Rattle.manager_spec.specs.Agreement.{mux_memory, replica_step, message_step, proposed, proposal_step, IsStep}
use Rattle.manager_spec.proofs.Choices.{by_if, by_both}
use Rattle.manager_spec.proofs.Own.{offer_own}
use Rattle.manager_spec.proofs.AgreedRows.{agrees_is, quiet_is, drops_is, says_is, same_step, prepare_is, promise_is}
use Rattle.manager_spec.proofs.AgreedRows.{refuse_is, lead_is, accept_is, accepted_is, chosen_is, fetch_is}

-- ---- muxes

-- a row that is this much of the agreement: other memory
abbrev Remembers : ConfigParts → Manager → Half → Memory → Type 0
Remembers cfg r h m = IsStep cfg r h.turn (still m)

hello_is : (cfg : ConfigParts) (r : Manager) (mux boot epoch : ℕ)
    → Remembers cfg r (on_hello cfg r mux boot epoch)
    (if nat_lt boot (peer r mux).boot then r.memory else see_epoch r.memory epoch)
unfolding on_hello
hello_is cfg r mux boot epoch = by_both (Remembers cfg r) (nat_lt boot (peer r mux).boot)
    {x = stops (drop_turn r Late)} (λ _. drops_is cfg r Late)
    (λ _. quiet_is cfg r (hear_epoch (hear_mux r mux boot) epoch) (see_epoch r.memory epoch) refl refl refl)

refusal_is : (cfg : ConfigParts) (r : Manager) (mux boot epoch : ℕ)
    → Remembers cfg r (on_mux_refuse cfg r mux boot epoch) (see_epoch r.memory epoch)
unfolding on_mux_refuse
refusal_is cfg r mux boot epoch =
    quiet_is cfg r (hear_epoch (hear_mux r mux boot) epoch) (see_epoch r.memory epoch) refl refl refl

-- a row that changes nothing of the agreement
abbrev Stays : ConfigParts → Manager → Half → Type 0
Stays cfg r h = IsStep cfg r h.turn (still r.memory)

ack_is : (cfg : ConfigParts) (r : Manager) (with_one : Marks → ℕ → ℕ → Marks) (mux epoch boot n : ℕ)
    → Stays cfg r (on_ack cfg r with_one mux epoch boot n)
unfolding on_ack
ack_is cfg r with_one mux epoch boot n = by_if (Stays cfg r)
    (is_primary r.memory.leader.stage && (r.memory.leader.ballot == epoch) && is_some (row_at (leases cfg r).rows n))
    {y = stops (drop_turn r Late)}
    (λ _. quiet_is cfg r (record (hear_mux r mux boot)
    { acks = set_marks r.acks n (with_one (marks_at r.acks n) mux boot) })
    r.memory refl refl refl)
    (λ _. drops_is cfg r Late)

-- ---- agents

enqueue_is : (cfg : ConfigParts) (r : Manager) (c : LogCommand) → Stays cfg r (enqueue r c)
unfolding enqueue
enqueue_is cfg r c = by_if (Stays cfg r) (is_waiting r c) {x = stops (drop_turn r Waiting)}
    (λ _. drops_is cfg r Waiting)
    (λ _. by_if (Stays cfg r) (nat_le most_queued (length r.queue)) {x = stops (drop_turn r QueueFull)}
    (λ _. drops_is cfg r QueueFull)
    (λ _. quiet_is cfg r (record r { queue = r.queue ++ c ∷ [] }) r.memory refl refl refl))

grant_is : (cfg : ConfigParts) (r : Manager) (o : Option Row) → Stays cfg r (grant_again r o)
grant_is cfg r None = drops_is cfg r Late
grant_is cfg r (Some row) = by_if (Stays cfg r) (is_being row.phase) {x = stops (drop_turn r Waiting)}
    (λ _. drops_is cfg r Waiting)
    (λ _. by_if (Stays cfg r) (is_freeing row.phase) {x = stops (drop_turn r Late)} (λ _. drops_is cfg r Late)
    (λ _. says_is cfg r (grant_of row ∷ []) (refl, tt)))

again_is : (cfg : ConfigParts) (r : Manager) (agent boot : ℕ) (machine : Ip4) (seq : ℕ) (o : Outcome)
    → Stays cfg r (answer_again cfg r agent boot machine seq o)
again_is cfg r agent boot machine seq (Reserved range n) = grant_is cfg r (row_at (leases cfg r).rows n)
again_is cfg r agent boot machine seq (Exhausted place) = says_is cfg r _ (refl, tt)
again_is cfg r agent boot machine seq (AtLimit count) = says_is cfg r _ (refl, tt)

after_is : (cfg : ConfigParts) (r : Manager) (agent boot : ℕ) (machine : Ip4) (seq : ℕ) (o : Option Last)
    → Stays cfg r (ask_after cfg r agent boot machine seq o)
unfolding ask_after
after_is cfg r agent boot machine seq None = enqueue_is cfg r (Reserve agent boot machine seq)
after_is cfg r agent boot machine seq (Some last) =
    by_if (Stays cfg r) (is_later boot seq (Some last)) {x = enqueue r (Reserve agent boot machine seq)}
    (λ _. enqueue_is cfg r (Reserve agent boot machine seq))
    (λ _. by_if (Stays cfg r) ((last.boot == boot) && (last.seq == seq)) {y = stops (drop_turn r Late)}
    (λ _. again_is cfg r agent boot machine seq last.outcome) (λ _. drops_is cfg r Late))

ask_is : (cfg : ConfigParts) (r : Manager) (agent boot : ℕ) (machine : Ip4) (seq : ℕ)
    → Stays cfg r (on_ask cfg r agent boot machine seq)
unfolding on_ask
ask_is cfg r agent boot machine seq =
    by_if (Stays cfg r) (not (is_primary r.memory.leader.stage)) {x = stops (drop_turn r NotPrimary)}
    (λ _. drops_is cfg r NotPrimary)
    (λ _. by_if (Stays cfg r) (not (is_agents agent (rule_of (lease_rules_of cfg) machine)))
    {x = stops (drop_turn r NotMine)} (λ _. drops_is cfg r NotMine)
    (λ _. by_if (Stays cfg r) (nat_lt boot (known_boot (leases cfg r).known agent)) {x = stops (drop_turn r Late)}
    (λ _. drops_is cfg r Late)
    (λ _. after_is cfg r agent boot machine seq (last_of (leases cfg r).lasts machine))))

return_by : (cfg : ConfigParts) (r : Manager) (agent boot n : ℕ) (o : Option Row)
    → Stays cfg r (return_of r agent boot n o)
return_by cfg r agent boot n None = says_is cfg r _ (refl, tt)
return_by cfg r agent boot n (Some row) =
    by_if (Stays cfg r) (not ((row.agent == agent) && (row.boot == boot))) {x = stops (drop_turn r NotMine)}
    (λ _. drops_is cfg r NotMine)
    (λ _. by_if (Stays cfg r) (is_freeing row.phase) {x = returned r agent boot n} {y = enqueue r (Release n)}
    (λ _. says_is cfg r _ (refl, tt)) (λ _. enqueue_is cfg r (Release n)))

return_is : (cfg : ConfigParts) (r : Manager) (agent boot n : ℕ) → Stays cfg r (on_return cfg r agent boot n)
unfolding on_return
return_is cfg r agent boot n =
    by_if (Stays cfg r) (not (is_primary r.memory.leader.stage)) {x = stops (drop_turn r NotPrimary)}
    (λ _. drops_is cfg r NotPrimary)
    (λ _. by_if (Stays cfg r) ((n == 0) || nat_lt (16 * reach r.acceptor) n) {x = stops (drop_turn r Unknown)}
    (λ _. drops_is cfg r Unknown)
    (λ _. return_by cfg r agent boot n (row_at (leases cfg r).rows n)))

up_is : (cfg : ConfigParts) (r : Manager) (agent boot : ℕ) → Stays cfg r (on_agent_up cfg r agent boot)
unfolding on_agent_up
up_is cfg r agent boot =
    by_if (Stays cfg r) (not (is_primary r.memory.leader.stage)) {x = stops (drop_turn r NotPrimary)}
    (λ _. drops_is cfg r NotPrimary)
    (λ _. by_if (Stays cfg r) (nat_lt boot (known_boot (leases cfg r).known agent)) {x = stops (drop_turn r Late)}
    (λ _. drops_is cfg r Late)
    (λ _. by_if (Stays cfg r) (boot == known_boot (leases cfg r).known agent)
    {x = goes_on (says r (tell (Agent agent) (message.AgentKnown boot) ∷ []))} {y = enqueue r (Up agent boot)}
    (λ _. says_is cfg r _ (refl, tt)) (λ _. enqueue_is cfg r (Up agent boot))))

-- ---- a message of a node

replica_is : (cfg : ConfigParts) (r : Manager) (from : ℕ) (m : Message)
    → IsStep cfg r (from_replica cfg r from m).turn (replica_step r from m)
replica_is cfg r from (message.Prepare c) = prepare_is cfg r from c
replica_is cfg r from (message.Promise c length vote value) = promise_is cfg r from c length vote value
replica_is cfg r from (message.Accept c slot v) = accept_is cfg r from c slot v
replica_is cfg r from (message.Accepted c slot) = accepted_is cfg r from c slot
replica_is cfg r from (message.Refuse c p) = refuse_is cfg r from c p
replica_is cfg r from (message.Chosen slot c v) = chosen_is cfg r from slot c v
replica_is cfg r from (message.Fetch slot) = fetch_is cfg r from slot
replica_is cfg r from (message.Lead c length) = lead_is cfg r from c length
replica_is cfg r from _ = drops_is cfg r _

mux_is : (cfg : ConfigParts) (r : Manager) (mux : ℕ) (m : Message)
    → IsStep cfg r (from_mux cfg r mux m).turn (still (mux_memory r mux m))
mux_is cfg r mux (message.MuxHello boot epoch) = hello_is cfg r mux boot epoch
mux_is cfg r mux (message.MuxRefuse epoch boot kept) = refusal_is cfg r mux boot kept
mux_is cfg r mux (message.Programmed epoch boot n) = ack_is cfg r programmed_by mux epoch boot n
mux_is cfg r mux (message.Unprogrammed epoch boot n) = ack_is cfg r unprogrammed_by mux epoch boot n
mux_is cfg r mux _ = drops_is cfg r _

agent_is : (cfg : ConfigParts) (r : Manager) (agent : ℕ) (m : Message)
    → IsStep cfg r (from_agent cfg r agent m).turn (still r.memory)
agent_is cfg r agent (message.Ask boot machine seq) = ask_is cfg r agent boot machine seq
agent_is cfg r agent (message.Return boot n) = return_is cfg r agent boot n
agent_is cfg r agent (message.AgentUp boot) = up_is cfg r agent boot
agent_is cfg r agent _ = drops_is cfg r _

pub message_is : (cfg : ConfigParts) (r : Manager) (from : NodeId) (m : Message)
    → IsStep cfg r (manager_hears cfg r from m).turn (message_step r from m)
unfolding manager_hears
message_is cfg r (Replica from) m = replica_is cfg r from m
message_is cfg r (Mux from) m = mux_is cfg r from m
message_is cfg r (Agent from) m = agent_is cfg r from m

-- ---- the proposal

no_offer : (r : Manager) (v : List LogCommand) → may_propose r.acceptor r.memory.leader ≡ false
    → still r.memory ≡ on_offer r.index r.acceptor r.memory v
unfolding on_offer
no_offer r v e = rw e refl

pub proposal_is : (cfg : ConfigParts) (r : Manager) → IsStep cfg r (propose cfg r) (proposal_step cfg r)
unfolding propose
proposal_is cfg r = by_if (λ t. IsStep cfg r t (proposal_step cfg r)) (may_propose r.acceptor r.memory.leader)
    {x = filled cfg r (first_due cfg r)} {y = quiet r}
    (λ _. by_both (IsStep cfg r) (length (proposed cfg r) == 0) {x = quiet r}
    (λ _. quiet_is cfg r r r.memory refl refl refl)
    (λ _. agrees_is cfg r (record r { queue = drop (16 - length (first_due cfg r)) r.queue }) _ refl refl
    (offer_own r.index r.acceptor r.memory (proposed cfg r))))
    (λ e. by_if (IsStep cfg r (quiet r)) (length (proposed cfg r) == 0) {x = still r.memory}
    (λ _. quiet_is cfg r r r.memory refl refl refl)
    (λ _. same_step cfg r _ _ _ (no_offer r (proposed cfg r) e) (quiet_is cfg r r r.memory refl refl refl)))
