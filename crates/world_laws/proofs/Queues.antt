-- What holds of each command that waits at a replica, holds of each after its turn.
use Rattle.std.proofs.Common.{◌≡◌, refl, ℕ, zero, suc, true, false, Bool, List, [], ◌∷◌, ◌++◌, Option, Some, None, max}
use Rattle.std.proofs.Common.{drop, arith}
use Rattle.std.specs.Prelude.{◌==◌, not, ◌&&◌, ◌||◌, ◌*◌, ◌-◌, nat_lt, nat_le, length, is_some, if◌then◌else◌}
use Rattle.wire_core.specs.Commands.{LogCommand, Reserve, Release, Up}
use Rattle.wire_core.specs.Members.{Each}
use Rattle.wire_core.specs.declared.address.Ip4.{Ip4}
use Rattle.wire_core.specs.declared.cause.DropCause.TheVariants.{Late, NotPrimary, NotMine, Unknown, Waiting, QueueFull}
use Rattle.vip_config.specs.Leases.{lease_rules_of}
use Rattle.vip_config.specs.declared.parts.ConfigParts.{ConfigParts}
use Rattle.control_msg.specs.declared.message.Message.{Message}
use Rattle.control_msg.specs.declared.message.Message.TheVariants as message
use Rattle.lease_spec.proofs.MemberLaws.{each_append}
use Rattle.lease_spec.specs.Table.{Last, is_being, is_freeing, is_later, known_boot, last_of, row_at, rule_of}
use Rattle.lease_spec.specs.declared.row.Outcome.{Outcome}
use Rattle.lease_spec.specs.declared.row.Outcome.TheVariants.{Reserved, Exhausted, AtLimit}
use Rattle.lease_spec.specs.declared.row.Row.{Row}
use Rattle.paxos_spec.specs.Acceptor.{reach, accept_step, chosen_step, kept}
use Rattle.paxos_spec.specs.Leader.{is_follower, is_primary, lead_accepted, lead_promise}
use Rattle.paxos_spec.specs.Replica.{Out, is_next, may_propose, on_campaign}
use Rattle.paxos_spec.specs.Votes.{Value, cast}
use Rattle.paxos_spec.specs.declared.cast.Cast.{Cast}
use Rattle.paxos_spec.specs.declared.steps.Counted.{Counted}
use Rattle.paxos_spec.specs.declared.steps.Counted.TheVariants as counted
use Rattle.node_spec.specs.Sends.{tell}
use Rattle.node_spec.specs.Turns.{Turn, quiet, drop_turn, says}
use Rattle.manager_spec.proofs.Choices.{by_if}
use Rattle.manager_spec.specs.Agents.{is_waiting, most_queued, enqueue, grant_again, answer_again, ask_after, is_agents}
use Rattle.manager_spec.specs.Agents.{on_ask, returned, return_of, on_return, on_agent_up}
use Rattle.manager_spec.specs.Clock.{leads, runs_for, ticks, on_tick}
use Rattle.manager_spec.specs.Known.{peer, hear_mux, marks_at, set_marks}
use Rattle.manager_spec.specs.Leading.{on_prepare, is_late_promise, on_promise, on_refuse, on_lead}
use Rattle.manager_spec.specs.Manager.{Manager, rested, agrees, leases}
use Rattle.manager_spec.specs.ManagerTable.{from_replica, from_mux}
use Rattle.manager_spec.specs.Muxes.{hear_epoch, see_epoch, on_hello, on_mux_refuse, on_ack, programmed_by}
use Rattle.manager_spec.specs.Muxes.{unprogrammed_by}
use Rattle.manager_spec.specs.Proposal.{Half, stops, goes_on, first_due, filled, propose, whole}
use Rattle.manager_spec.specs.Voting.{is_late_accept, on_accept, completes, counts, on_accepted, is_late_chosen}
use Rattle.manager_spec.specs.Voting.{on_chosen, on_fetched}
use Rattle.manager_spec.specs.declared.marks.Marks.{Marks}
use Rattle.wire_core.specs.declared.node.NodeId.TheVariants.{Agent}
use Rattle.manager_spec.specs.Agreement.{proposed}
use Rattle.manager_spec.specs.Orders.{grant_of}

module _ (P : LogCommand → Type 0) where
  -- each command that waits has it
  abbrev Waits : Manager → Type 0
  Waits r = Each P r.queue

  abbrev After : Turn Manager → Type 0
  After t = Waits t.state

  abbrev Then : Half → Type 0
  Then h = Waits h.turn.state

  rests : (r : Manager) → Waits r → Waits (rested r)
  rests r h = by_if (Each P) (is_follower r.memory.leader.stage) (λ _. tt) (λ _. h)

  agreed : (cfg : ConfigParts) (r : Manager) (o : Out) → Waits r → After (agrees cfg r o)
  unfolding agrees
  agreed cfg r o h = rests (record r { acceptor = kept r.acceptor o.entry; memory = o.memory }) h

  -- ---- replicas

  prepare_waits : (cfg : ConfigParts) (r : Manager) (from c : ℕ) → Waits r → After (on_prepare cfg r from c)
  unfolding on_prepare
  prepare_waits cfg r from c h = agreed cfg r _ h

  promise_waits : (cfg : ConfigParts) (r : Manager) (from c length : ℕ) (vote : Cast) → Waits r
      → After (on_promise cfg r from c length vote)
  unfolding on_promise
  promise_waits cfg r from c length vote h =
      by_if After (is_late_promise (lead_promise r.memory.leader from c length vote (reach r.acceptor)).1)
      {x = drop_turn r Late} (λ _. h) (λ _. agreed cfg r _ h)

  refuse_waits : (cfg : ConfigParts) (r : Manager) (c p : ℕ) → Waits r → After (on_refuse cfg r c p)
  unfolding on_refuse
  refuse_waits cfg r c p h =
      by_if After (not (is_follower r.memory.leader.stage) && (r.memory.leader.ballot == c) && nat_lt c p)
      {y = drop_turn r Late} (λ _. agreed cfg (record r { heard = r.time }) _ h) (λ _. h)

  lead_waits : (cfg : ConfigParts) (r : Manager) (from c length : ℕ) → Waits r → After (on_lead cfg r from c length)
  unfolding on_lead
  lead_waits cfg r from c length h =
      agreed cfg (record r { heard = if nat_lt c r.acceptor.promise then r.heard else r.time }) _ h

  accept_waits : (cfg : ConfigParts) (r : Manager) (from c slot : ℕ) (v : Value) → Waits r
      → After (on_accept cfg r from c slot v)
  unfolding on_accept
  accept_waits cfg r from c slot v h = by_if After (is_late_accept (accept_step r.acceptor c slot v))
      {x = drop_turn r Late} (λ _. h) (λ _. agreed cfg r _ h)

  counts_waits : (cfg : ConfigParts) (r : Manager) (o : Out) (k : Counted) → Waits r → Then (counts cfg r o k)
  unfolding completes
  counts_waits cfg r o counted.Late h = h
  counts_waits cfg r o counted.More h = agreed cfg r o h
  counts_waits cfg r o counted.Chosen h = agreed cfg r o h

  accepted_waits : (cfg : ConfigParts) (r : Manager) (from c slot : ℕ) → Waits r → Then (on_accepted cfg r from c slot)
  unfolding on_accepted
  accepted_waits cfg r from c slot h = by_if Then (is_next r.acceptor slot) {y = stops (drop_turn r Late)}
      (λ _. counts_waits cfg r _ (lead_accepted r.memory.leader from c slot).1 h) (λ _. h)

  chosen_waits : (cfg : ConfigParts) (r : Manager) (from slot c : ℕ) (v : Value) → Waits r
      → After (on_chosen cfg r from slot c v)
  unfolding on_chosen
  chosen_waits cfg r from slot c v h = by_if After (is_late_chosen (chosen_step r.acceptor slot))
      {x = drop_turn r Late} (λ _. h) (λ _. agreed cfg r _ h)

  fetch_waits : (cfg : ConfigParts) (r : Manager) (from slot : ℕ) → Waits r → After (on_fetched cfg r from slot)
  unfolding on_fetched
  fetch_waits cfg r from slot h = by_if After (nat_lt slot (reach r.acceptor)) {y = drop_turn r Late}
      (λ _. agreed cfg r _ h) (λ _. h)

  pub replica_waits : (cfg : ConfigParts) (r : Manager) (from : ℕ) (m : Message) → Waits r → Then
      (from_replica cfg r from m)
  replica_waits cfg r from (message.Prepare c) h = prepare_waits cfg r from c h
  replica_waits cfg r from (message.Promise c l vote value) h = promise_waits cfg r from c l (cast vote value) h
  replica_waits cfg r from (message.Accept c t v) h = accept_waits cfg r from c t v h
  replica_waits cfg r from (message.Accepted c t) h = accepted_waits cfg r from c t h
  replica_waits cfg r from (message.Refuse c p) h = refuse_waits cfg r c p h
  replica_waits cfg r from (message.Chosen t c v) h = chosen_waits cfg r from t c v h
  replica_waits cfg r from (message.Fetch t) h = fetch_waits cfg r from t h
  replica_waits cfg r from (message.Lead c l) h = lead_waits cfg r from c l h
  replica_waits cfg r from _ h = h

  -- ---- muxes

  hello_waits : (cfg : ConfigParts) (r : Manager) (mux boot epoch : ℕ) → Waits r → Then (on_hello cfg r mux boot epoch)
  unfolding on_hello
  hello_waits cfg r mux boot epoch h = by_if Then (nat_lt boot (peer r mux).boot) {x = stops (drop_turn r Late)}
      (λ _. h) (λ _. rests (record (hear_mux r mux boot) { memory = see_epoch r.memory epoch }) h)

  ack_waits : (cfg : ConfigParts) (r : Manager) (f : Marks → ℕ → ℕ → Marks) (mux epoch boot n : ℕ) → Waits r
      → Then (on_ack cfg r f mux epoch boot n)
  unfolding on_ack
  ack_waits cfg r f mux epoch boot n h =
      by_if Then (is_primary r.memory.leader.stage && (r.memory.leader.ballot == epoch) && is_some
      (row_at (leases cfg r).rows n))
      {x = goes_on (quiet (record
      (hear_mux r mux boot) { acks = set_marks r.acks n (f (marks_at r.acks n) mux boot) }))}
      {y = stops (drop_turn r Late)} (λ _. h) (λ _. h)

  pub mux_waits : (cfg : ConfigParts) (r : Manager) (mux : ℕ) (m : Message) → Waits r → Then (from_mux cfg r mux m)
  unfolding on_mux_refuse
  mux_waits cfg r mux (message.MuxHello boot epoch) h = hello_waits cfg r mux boot epoch h
  mux_waits cfg r mux (message.MuxRefuse epoch boot keeps) h =
      rests (record (hear_mux r mux boot) { memory = see_epoch r.memory keeps }) h
  mux_waits cfg r mux (message.Programmed epoch boot n) h = ack_waits cfg r programmed_by mux epoch boot n h
  mux_waits cfg r mux (message.Unprogrammed epoch boot n) h = ack_waits cfg r unprogrammed_by mux epoch boot n h
  mux_waits cfg r mux _ h = h

  -- ---- agents

  enqueue_waits : (r : Manager) (c : LogCommand) → Waits r → P c → Then (enqueue r c)
  unfolding enqueue
  enqueue_waits r c h p = by_if Then (is_waiting r c) {x = stops (drop_turn r Waiting)} (λ _. h)
      (λ _. by_if Then (nat_le most_queued (length r.queue)) {x = stops (drop_turn r QueueFull)}
      {y = goes_on (quiet (record r { queue = r.queue ++ c ∷ [] }))} (λ _. h)
      (λ _. each_append P r.queue (c ∷ []) h (p, tt)))

  grant_waits : (r : Manager) (o : Option Row) → Waits r → Then (grant_again r o)
  grant_waits r None h = h
  grant_waits r (Some row) h = by_if Then (is_being row.phase) {x = stops (drop_turn r Waiting)} (λ _. h)
      (λ _. by_if Then (is_freeing row.phase) {x = stops (drop_turn r Late)}
      {y = goes_on (says r (grant_of row ∷ []))} (λ _. h) (λ _. h))

  answer_waits : (cfg : ConfigParts) (r : Manager) (agent boot : ℕ) (machine : Ip4) (seq : ℕ) (o : Outcome) → Waits r
      → Then (answer_again cfg r agent boot machine seq o)
  answer_waits cfg r agent boot machine seq (Reserved range n) h = grant_waits r (row_at (leases cfg r).rows n) h
  answer_waits cfg r agent boot machine seq (Exhausted place) h = h
  answer_waits cfg r agent boot machine seq (AtLimit count) h = h

  after_waits : (cfg : ConfigParts) (r : Manager) (agent boot : ℕ) (machine : Ip4) (seq : ℕ) (o : Option Last) → Waits r
      → P (Reserve agent boot machine seq) → Then (ask_after cfg r agent boot machine seq o)
  unfolding ask_after
  after_waits cfg r agent boot machine seq None h p = enqueue_waits r (Reserve agent boot machine seq) h p
  after_waits cfg r agent boot machine seq (Some last) h p = by_if Then (is_later boot seq (Some last))
      (λ _. enqueue_waits r (Reserve agent boot machine seq) h p)
      (λ _. by_if Then ((last.boot == boot) && (last.seq == seq)) {y = stops (drop_turn r Late)}
      (λ _. answer_waits cfg r agent boot machine seq last.outcome h) (λ _. h))

  pub ask_waits : (cfg : ConfigParts) (r : Manager) (agent boot : ℕ) (machine : Ip4) (seq : ℕ) → Waits r
      → P (Reserve agent boot machine seq) → Then (on_ask cfg r agent boot machine seq)
  unfolding on_ask
  ask_waits cfg r agent boot machine seq h p =
      by_if Then (not (is_primary r.memory.leader.stage)) {x = stops (drop_turn r NotPrimary)} (λ _. h)
      (λ _. by_if Then (not (is_agents agent (rule_of (lease_rules_of cfg) machine))) {x = stops (drop_turn r NotMine)}
      (λ _. h)
      (λ _. by_if Then (nat_lt boot (known_boot (leases cfg r).known agent)) {x = stops (drop_turn r Late)} (λ _. h)
      (λ _. after_waits cfg r agent boot machine seq (last_of (leases cfg r).lasts machine) h p)))

  return_waits : (r : Manager) (agent boot n : ℕ) (o : Option Row) → Waits r → P (Release n)
      → Then (return_of r agent boot n o)
  return_waits r agent boot n None h p = h
  return_waits r agent boot n (Some row) h p =
      by_if Then (not ((row.agent == agent) && (row.boot == boot))) {x = stops (drop_turn r NotMine)} (λ _. h)
      (λ _. by_if Then (is_freeing row.phase) {x = returned r agent boot n} (λ _. h)
      (λ _. enqueue_waits r (Release n) h p))

  pub back_waits : (cfg : ConfigParts) (r : Manager) (agent boot n : ℕ) → Waits r → P (Release n)
      → Then (on_return cfg r agent boot n)
  unfolding on_return
  back_waits cfg r agent boot n h p =
      by_if Then (not (is_primary r.memory.leader.stage)) {x = stops (drop_turn r NotPrimary)} (λ _. h)
      (λ _. by_if Then ((n == 0) || nat_lt (16 * reach r.acceptor) n) {x = stops (drop_turn r Unknown)} (λ _. h)
      (λ _. return_waits r agent boot n (row_at (leases cfg r).rows n) h p))

  pub up_waits : (cfg : ConfigParts) (r : Manager) (agent boot : ℕ) → Waits r → P (Up agent boot)
      → Then (on_agent_up cfg r agent boot)
  unfolding on_agent_up
  up_waits cfg r agent boot h p =
      by_if Then (not (is_primary r.memory.leader.stage)) {x = stops (drop_turn r NotPrimary)} (λ _. h)
      (λ _. by_if Then (nat_lt boot (known_boot (leases cfg r).known agent)) {x = stops (drop_turn r Late)} (λ _. h)
      (λ _. by_if Then (boot == known_boot (leases cfg r).known agent)
      {x = goes_on (says r (tell (Agent agent) (message.AgentKnown boot) ∷ []))}
      (λ _. h) (λ _. enqueue_waits r (Up agent boot) h p)))

  -- ---- the clock

  pub tick_waits : (cfg : ConfigParts) (r : Manager) (now : ℕ) → Waits r → Then (on_tick cfg r now)
  unfolding on_tick
  tick_waits cfg m now h =
      let r : Manager = record m { time = max m.time now } in
      by_if Then (is_primary r.memory.leader.stage) {x = goes_on (leads cfg r)} (λ _. h)
      (λ _. by_if Then (nat_le cfg.timers.lead_silent (r.time - r.heard))
      {x = stops (runs_for cfg r (on_campaign r.index r.acceptor r.memory))} {y = stops (quiet r)}
      (λ _. runs cfg r (on_campaign r.index r.acceptor r.memory) h) (λ _. h))
    where
      runs : (cfg : ConfigParts) (r : Manager) (o : Out) → Waits r → After (runs_for cfg r o)
      runs cfg r o h = by_if After (is_some o.entry) {y = quiet r}
          (λ _. agreed cfg (record r { acks = []; queue = [] }) o tt) (λ _. h)

  -- ---- the proposal

  each_drop : (k : ℕ) (cs : List LogCommand) → Each P cs → Each P (drop k cs)
  each_drop zero cs h = h
  each_drop (suc k) [] h = tt
  each_drop (suc k) (c ∷ cs) h = each_drop k cs h.1

  propose_waits : (cfg : ConfigParts) (r : Manager) → Waits r → After (propose cfg r)
  unfolding propose
  propose_waits cfg r h =
      by_if After (may_propose r.acceptor r.memory.leader) {x = filled cfg r (first_due cfg r)} {y = quiet r}
      (λ _. by_if After (length (proposed cfg r) == 0) {x = quiet r} (λ _. h)
      (λ _. agreed cfg (record r { queue = drop (16 - length (first_due cfg r)) r.queue }) _
      (each_drop (16 - length (first_due cfg r)) r.queue h)))
      (λ _. h)

  pub whole_waits : (cfg : ConfigParts) (half : Half) → Then half → After (whole cfg half)
  unfolding whole
  whole_waits cfg half h = by_if After half.proposes {y = half.turn} (λ _. propose_waits cfg half.turn.state h) (λ _. h)
