-- What a replica tells agents: Grants of what it has just learned, or of its table.
use Rattle.std.proofs.Common.{◌≡◌, refl, ◌⊎◌, inl, inr, sym, ap, subst, ℕ, zero, suc, ◌<◌, true, false, Bool, List, []}
use Rattle.std.proofs.Common.{◌∷◌, ◌++◌, map, take, Option, Some, None, max, arith}
use Rattle.std.specs.Prelude.{◌==◌, not, ◌&&◌, ◌||◌, ◌*◌, ◌-◌, nat_lt, nat_le, length, is_some, if◌then◌else◌, drop}
use Rattle.std.specs.List.{flat_map}
use Rattle.wire_core.specs.Commands.{LogCommand, Reserve, Release, Up}
use Rattle.wire_core.specs.Members.{In, Each}
use Rattle.wire_core.specs.Steps.{first_of}
use Rattle.wire_core.specs.declared.address.Ip4.{Ip4}
use Rattle.wire_core.specs.declared.cause.DropCause.TheVariants.{Late, NotPrimary, NotMine, Unknown, Waiting, QueueFull}
use Rattle.wire_core.specs.declared.entry.Entry.{Entry}
use Rattle.wire_core.specs.declared.node.NodeId.{NodeId}
use Rattle.wire_core.specs.declared.node.NodeId.TheVariants.{Replica, Mux, Agent}
use Rattle.vip_config.specs.Leases.{lease_rules_of}
use Rattle.vip_config.specs.Serving.{agent_with}
use Rattle.vip_config.specs.declared.parts.ConfigParts.{ConfigParts}
use Rattle.control_msg.specs.declared.message.Message.{Message}
use Rattle.control_msg.specs.declared.message.Message.TheVariants as message
use Rattle.lease_spec.proofs.MemberLaws.{each_append, each_map, each_on, found_in}
use Rattle.lease_spec.specs.Table.{Last, is_being, is_freeing, is_later, known_boot, last_of, row_at, rule_of}
use Rattle.lease_spec.specs.declared.effect.Effect.{Effect}
use Rattle.lease_spec.specs.declared.effect.Effect.TheVariants as effect
use Rattle.lease_spec.specs.declared.row.Outcome.{Outcome}
use Rattle.lease_spec.specs.declared.row.Outcome.TheVariants.{Reserved, Exhausted, AtLimit}
use Rattle.lease_spec.specs.declared.row.Phase.{Phase}
use Rattle.lease_spec.specs.declared.row.Phase.TheVariants.{BeingLeased, Leased, Freeing}
use Rattle.lease_spec.specs.declared.row.Row.{Row}
use Rattle.paxos_spec.specs.Acceptor.{reach, accept_step, chosen_step, kept}
use Rattle.paxos_spec.specs.Leader.{is_follower, is_primary, lead_accepted, lead_promise}
use Rattle.paxos_spec.specs.Replica.{Out, accept_out, is_next, may_propose, on_campaign}
use Rattle.paxos_spec.specs.Votes.{Value, cast}
use Rattle.paxos_spec.specs.declared.cast.Cast.{Cast}
use Rattle.paxos_spec.specs.declared.mail.Mail.{Mail}
use Rattle.paxos_spec.specs.declared.steps.Counted.{Counted}
use Rattle.paxos_spec.specs.declared.steps.Counted.TheVariants as counted
use Rattle.node_spec.specs.Datagrams.{Heard, Refused, Told, Brought, by_heard, heard}
use Rattle.node_spec.specs.Sends.{Place, ToNode, ToMachine, ToRouter, Said, Says, Carries, Send, others, tell}
use Rattle.node_spec.specs.Sends.{tell_each}
use Rattle.node_spec.specs.Turns.{Input, Arrived, Ticked, Turn, quiet, drop_turn, says}
use Rattle.manager_spec.proofs.Choices.{by_if}
use Rattle.manager_spec.specs.Agents.{is_waiting, most_queued, enqueue, grant_again, answer_again, ask_after, is_agents}
use Rattle.manager_spec.specs.Agents.{on_ask, returned, return_of, on_return, on_agent_up}
use Rattle.manager_spec.specs.Agreement.{proposed}
use Rattle.manager_spec.specs.Clock.{accept_again, lead_again, leads, runs_for, on_tick}
use Rattle.manager_spec.specs.Known.{is_acked, marks_at, near, peer, hear_mux, running, set_marks}
use Rattle.manager_spec.specs.Leading.{on_prepare, is_late_promise, on_promise, on_refuse, on_lead}
use Rattle.manager_spec.specs.Manager.{Manager, agrees, effects_of, leases, leases_of, mailed}
use Rattle.manager_spec.specs.ManagerTable.{from_agent, from_mux, from_replica, manager_half, manager_hears}
use Rattle.manager_spec.specs.ManagerTable.{manager_step, manager_takes, refuses}
use Rattle.manager_spec.specs.Muxes.{on_hello, on_mux_refuse, on_ack, programmed_by, unprogrammed_by}
use Rattle.manager_spec.specs.Orders.{grant_of, order_of, orders, orders_of, program, program_new, push, push_one}
use Rattle.manager_spec.specs.Orders.{push_row, unprogram, denied, known}
use Rattle.manager_spec.specs.Proposal.{Half, stops, goes_on, first_due, filled, propose, whole}
use Rattle.manager_spec.specs.Voting.{is_late_accept, on_accept, completes, counts, on_accepted, is_late_chosen}
use Rattle.manager_spec.specs.Voting.{on_chosen, on_fetched}
use Rattle.manager_spec.specs.declared.marks.Marks.{Marks}
use Rattle.manager_spec.specs.declared.peer.Peer.{Peer}

-- ---- what is told

-- a Grant of a row for which this holds
pub record IsGrantOf (Good : Row → Type 0) (agent boot : ℕ) (machine : Ip4) (n : ℕ) (vip : Ip4)
    (start : ℕ) : Type 0 where
  pub row : Row
  pub good : Good row
  pub agent_is : row.agent ≡ agent
  pub boot_is : row.boot ≡ boot
  pub machine_is : row.machine ≡ machine
  pub n_is : row.n ≡ n
  pub vip_is : row.range.vip ≡ vip
  pub start_is : row.range.start ≡ start

abbrev pub ForAgent : (Row → Type 0) → ℕ → Message → Type 0
ForAgent Good agent (message.Grant boot machine seq n vip start) = IsGrantOf Good agent boot machine n vip start
ForAgent Good agent (message.Denied boot machine seq reason number) = reason < 256
ForAgent Good agent (message.Returned boot n) = Unit {0}
ForAgent Good agent (message.AgentKnown boot) = Unit {0}
ForAgent Good agent _ = ⊥

abbrev pub Answers : (Row → Type 0) → Place → Said → Type 0
Answers Good (ToNode (Replica i)) said = Unit {0}
Answers Good (ToNode (Mux i)) said = Unit {0}
Answers Good (ToNode (Agent agent)) (Says m) = ForAgent Good agent m
Answers Good (ToNode (Agent agent)) (Carries packet) = ⊥
Answers Good (ToMachine machine) said = Unit {0}
Answers Good ToRouter said = Unit {0}

abbrev pub AllAnswer : (Row → Type 0) → List Send → Type 0
AllAnswer Good xs = Each (λ (x : Send). Answers Good x.to x.said) xs

-- a row that was just granted by an entry, or that the table has Leased
abbrev pub MayGrant : ConfigParts → Manager → Option Entry → Row → Type 0
MayGrant cfg r e row =
    In (effect.Granted row) (effects_of (lease_rules_of cfg) r.acceptor e)
    ⊎ (In row (leases cfg r).rows × (row.phase ≡ Leased))

-- a turn of r tells agents no other Grants
abbrev pub TellsRight : ConfigParts → Manager → Turn Manager → Type 0
TellsRight cfg r t = AllAnswer (MayGrant cfg r t.entry) t.sends

abbrev HalfTells : ConfigParts → Manager → Half → Type 0
HalfTells cfg r h = TellsRight cfg r h.turn

-- ---- groups of sends

module _ (Good : Row → Type 0) where
  mailed_answer : (xs : List Mail) → AllAnswer Good (map mailed xs)
  mailed_answer [] = tt
  mailed_answer (x ∷ xs) = (tt, mailed_answer xs)

  each_answer : (is : List ℕ) (m : Message) → AllAnswer Good (tell_each is m)
  each_answer [] m = tt
  each_answer (i ∷ is) m = (tt, each_answer is m)

  flat_answer : {X : Type 0} (f : X → List Send) → ((x : X) → AllAnswer Good (f x)) → (xs : List X)
      → AllAnswer Good (flat_map f xs)
  flat_answer f h [] = tt
  flat_answer f h (x ∷ xs) = each_append _ (f x) (flat_map f xs) (h x) (flat_answer f h xs)

  take_answer : (k : ℕ) (xs : List Send) → AllAnswer Good xs → AllAnswer Good (take k xs)
  take_answer zero xs h = tt
  take_answer (suc k) [] h = tt
  take_answer (suc k) (x ∷ xs) h = (h.0, take_answer k xs h.1)

  program_answer : (epoch : ℕ) (row : Row) (ps : List Peer) → AllAnswer Good (map (program epoch row) ps)
  program_answer epoch row [] = tt
  program_answer epoch row (p ∷ ps) = (tt, program_answer epoch row ps)

  unprogram_answer : (epoch : ℕ) (row : Row) (ps : List Peer) → AllAnswer Good (map (unprogram epoch row) ps)
  unprogram_answer epoch row [] = tt
  unprogram_answer epoch row (p ∷ ps) = (tt, unprogram_answer epoch row ps)

  new_answer : (epoch : ℕ) (ps : List Peer) (o : Option Row) → AllAnswer Good (program_new epoch ps o)
  new_answer epoch ps None = tt
  new_answer epoch ps (Some row) =
      by_if (AllAnswer Good) (is_being row.phase) (λ _. program_answer epoch row ps) (λ _. tt)

  grant_answer : (row : Row) → Good row → AllAnswer Good (grant_of row ∷ [])
  grant_answer row h = (
    record {
      row = row;
      good = h;
      agent_is = refl;
      boot_is = refl;
      machine_is = refl;
      n_is = refl;
      vip_is = refl;
      start_is = refl;
    },
    tt,
  )

  denied_answer : (o : Option ℕ) (boot : ℕ) (machine : Ip4) (seq reason number : ℕ) → reason < 256
      → AllAnswer Good (denied o boot machine seq reason number)
  denied_answer None boot machine seq reason number lt = tt
  denied_answer (Some agent) boot machine seq reason number lt = (lt, tt)

  known_answer : (cfg : ConfigParts) (agent boot : ℕ)
      → AllAnswer Good (known cfg agent boot)
  known_answer cfg agent boot = by_if (AllAnswer Good) (nat_lt agent (length cfg.agents)) (λ _. (tt, tt)) (λ _. tt)

  order_answer : (cfg : ConfigParts) (epoch : ℕ) (ps : List Peer) (rows : List Row) (e : Effect)
      → ((row : Row) → effect.Granted row ≡ e → Good row) → AllAnswer Good (order_of cfg epoch ps rows e)
  order_answer cfg epoch ps rows (effect.Reserved row) h = new_answer epoch ps (row_at rows row.n)
  order_answer cfg epoch ps rows (effect.Exhausted machine boot seq place) h =
      denied_answer (agent_with cfg machine) boot machine seq 1 place (omega arith)
  order_answer cfg epoch ps rows (effect.AtLimit machine boot seq count) h =
      denied_answer (agent_with cfg machine) boot machine seq 2 count (omega arith)
  order_answer cfg epoch ps rows (effect.Granted row) h = grant_answer row (h row refl)
  order_answer cfg epoch ps rows (effect.Released row) h = (tt, unprogram_answer epoch row ps)
  order_answer cfg epoch ps rows (effect.Freed row) h = tt
  order_answer cfg epoch ps rows (effect.Known agent boot) h = known_answer cfg agent boot
  order_answer cfg epoch ps rows (effect.Cleared row) h = tt

  orders_answer : (cfg : ConfigParts) (epoch : ℕ) (ps : List Peer) (rows : List Row) (es : List Effect)
      → ((row : Row) → In (effect.Granted row) es → Good row) → AllAnswer Good (orders_of cfg epoch ps rows es)
  unfolding orders_of
  orders_answer cfg epoch ps rows [] h = tt
  orders_answer cfg epoch ps rows (e ∷ es) h =
      each_append _ (order_of cfg epoch ps rows e) (flat_map (order_of cfg epoch ps rows) es)
      (order_answer cfg epoch ps rows e (λ row is. h row (inl (sym is))))
      (orders_answer cfg epoch ps rows es (λ row i. h row (inr i)))

  push_one_answer : (epoch : ℕ) (row : Row) (marks : Marks) (p : Peer) → AllAnswer Good (push_one epoch row marks p)
  push_one_answer epoch row marks p = by_if (AllAnswer Good) (is_freeing row.phase)
      (λ _. by_if (AllAnswer Good) (is_acked marks.unprogrammed p) (λ _. tt) (λ _. (tt, tt)))
      (λ _. by_if (AllAnswer Good) (is_acked marks.programmed p) (λ _. tt) (λ _. (tt, tt)))

  push_answer : (cfg : ConfigParts) (r : Manager) → AllAnswer Good (push cfg r)
  unfolding push
  push_answer cfg r = take_answer 64 _ (flat_answer (push_row cfg r) (λ row.
      flat_answer (push_one r.memory.leader.ballot row (marks_at r.acks row.n))
      (λ p. push_one_answer r.memory.leader.ballot row (marks_at r.acks row.n) p) (near cfg r)) (leases cfg r).rows)

  leads_answer : (cfg : ConfigParts) (r : Manager) → AllAnswer Good (leads cfg r).sends
  leads_answer cfg r = each_append _ (lead_again r ++ accept_again r) (push cfg r)
      (each_append _ (lead_again r) (accept_again r) (each_answer (others r.index) _)
      (mailed_answer (accept_out r.index (reach r.acceptor) r.memory.leader)))
      (push_answer cfg r)

-- ---- rows

agreed : (Good : Row → Type 0) (cfg : ConfigParts) (r : Manager) (o : Out) → AllAnswer Good (agrees cfg r o).sends
unfolding agrees
agreed Good cfg r o = mailed_answer Good o.sends

first_none : (o : Option Entry) → first_of o None ≡ o
first_none None = refl
first_none (Some e) = refl

completes_right : (cfg : ConfigParts) (r : Manager) (o : Out) → TellsRight cfg r (completes cfg r o)
unfolding completes agrees
completes_right cfg r o =
    let e : (completes cfg r o).entry ≡ o.entry = first_none o.entry in
    subst (λ (x : Option Entry). AllAnswer (MayGrant cfg r x) (completes cfg r o).sends) (sym e)
    (each_append _ (agrees cfg r o).sends _ (agreed (MayGrant cfg r o.entry) cfg r o)
    (orders_answer (MayGrant cfg r o.entry) cfg _ _ _ (effects_of (lease_rules_of cfg) r.acceptor o.entry)
    (λ row i. inl i)))

counts_right : (cfg : ConfigParts) (r : Manager) (o : Out) (k : Counted) → HalfTells cfg r (counts cfg r o k)
counts_right cfg r o counted.Late = tt
counts_right cfg r o counted.More = agreed _ cfg r o
counts_right cfg r o counted.Chosen = completes_right cfg r o

accepted_right : (cfg : ConfigParts) (r : Manager) (from c slot : ℕ) → HalfTells cfg r (on_accepted cfg r from c slot)
unfolding on_accepted
accepted_right cfg r from c slot = by_if (HalfTells cfg r) (is_next r.acceptor slot) {y = stops (drop_turn r Late)}
    (λ _. counts_right cfg r _ (lead_accepted r.memory.leader from c slot).1) (λ _. tt)

-- a turn that sends to replicas alone
abbrev Mailing : Turn Manager → Type 1
Mailing t = (Good : Row → Type 0) → AllAnswer Good t.sends

prepare_mails : (cfg : ConfigParts) (r : Manager) (from c : ℕ) → Mailing (on_prepare cfg r from c)
unfolding on_prepare
prepare_mails cfg r from c Good = agreed Good cfg r _

promise_mails : (cfg : ConfigParts) (r : Manager) (from c length : ℕ) (vote : Cast)
    → Mailing (on_promise cfg r from c length vote)
unfolding on_promise
promise_mails cfg r from c length vote Good =
    by_if (λ (t : Turn Manager). AllAnswer Good t.sends)
    (is_late_promise (lead_promise r.memory.leader from c length vote (reach r.acceptor)).1)
    {x = drop_turn r Late} (λ _. tt) (λ _. agreed Good cfg r _)

refuse_mails : (cfg : ConfigParts) (r : Manager) (c p : ℕ) → Mailing (on_refuse cfg r c p)
unfolding on_refuse
refuse_mails cfg r c p Good =
    by_if (λ (t : Turn Manager). AllAnswer Good t.sends)
    (not (is_follower r.memory.leader.stage) && (r.memory.leader.ballot == c) && nat_lt c p)
    {y = drop_turn r Late} (λ _. agreed Good cfg (record r { heard = r.time }) _) (λ _. tt)

lead_mails : (cfg : ConfigParts) (r : Manager) (from c length : ℕ) → Mailing (on_lead cfg r from c length)
unfolding on_lead
lead_mails cfg r from c length Good =
    agreed Good cfg (record r { heard = if nat_lt c r.acceptor.promise then r.heard else r.time }) _

accept_mails : (cfg : ConfigParts) (r : Manager) (from c slot : ℕ) (v : Value) → Mailing (on_accept cfg r from c slot v)
unfolding on_accept
accept_mails cfg r from c slot v Good =
    by_if (λ (t : Turn Manager). AllAnswer Good t.sends) (is_late_accept (accept_step r.acceptor c slot v))
    {x = drop_turn r Late} (λ _. tt) (λ _. agreed Good cfg r _)

chosen_mails : (cfg : ConfigParts) (r : Manager) (from slot c : ℕ) (v : Value) → Mailing (on_chosen cfg r from slot c v)
unfolding on_chosen
chosen_mails cfg r from slot c v Good =
    by_if (λ (t : Turn Manager). AllAnswer Good t.sends) (is_late_chosen (chosen_step r.acceptor slot))
    {x = drop_turn r Late} (λ _. tt) (λ _. agreed Good cfg r _)

fetch_mails : (cfg : ConfigParts) (r : Manager) (from slot : ℕ) → Mailing (on_fetched cfg r from slot)
unfolding on_fetched
fetch_mails cfg r from slot Good =
    by_if (λ (t : Turn Manager). AllAnswer Good t.sends) (nat_lt slot (reach r.acceptor)) {y = drop_turn r Late}
    (λ _. agreed Good cfg r _) (λ _. tt)

replica_right : (cfg : ConfigParts) (r : Manager) (from : ℕ) (m : Message) → HalfTells cfg r (from_replica cfg r from m)
replica_right cfg r from (message.Prepare c) = prepare_mails cfg r from c _
replica_right cfg r from (message.Promise c l vote value) = promise_mails cfg r from c l (cast vote value) _
replica_right cfg r from (message.Accept c t v) = accept_mails cfg r from c t v _
replica_right cfg r from (message.Accepted c t) = accepted_right cfg r from c t
replica_right cfg r from (message.Refuse c p) = refuse_mails cfg r c p _
replica_right cfg r from (message.Chosen t c v) = chosen_mails cfg r from t c v _
replica_right cfg r from (message.Fetch t) = fetch_mails cfg r from t _
replica_right cfg r from (message.Lead c l) = lead_mails cfg r from c l _
replica_right cfg r from _ = tt

hello_right : (cfg : ConfigParts) (r : Manager) (mux boot epoch : ℕ) → HalfTells cfg r (on_hello cfg r mux boot epoch)
unfolding on_hello
hello_right cfg r mux boot epoch =
    by_if (HalfTells cfg r) (nat_lt boot (peer r mux).boot) {x = stops (drop_turn r Late)} (λ _. tt) (λ _. tt)

ack_right : (cfg : ConfigParts) (r : Manager) (f : Marks → ℕ → ℕ → Marks) (mux epoch boot n : ℕ)
    → HalfTells cfg r (on_ack cfg r f mux epoch boot n)
unfolding on_ack
ack_right cfg r f mux epoch boot n =
    by_if (HalfTells cfg r)
    (is_primary r.memory.leader.stage && (r.memory.leader.ballot == epoch) && is_some (row_at (leases cfg r).rows n))
    {x = goes_on (quiet (record (hear_mux r mux boot) { acks = set_marks r.acks n (f (marks_at r.acks n) mux boot) }))}
    {y = stops (drop_turn r Late)} (λ _. tt) (λ _. tt)

mux_right : (cfg : ConfigParts) (r : Manager) (mux : ℕ) (m : Message) → HalfTells cfg r (from_mux cfg r mux m)
unfolding on_mux_refuse
mux_right cfg r mux (message.MuxHello boot epoch) = hello_right cfg r mux boot epoch
mux_right cfg r mux (message.MuxRefuse epoch boot keeps) = tt
mux_right cfg r mux (message.Programmed epoch boot n) = ack_right cfg r programmed_by mux epoch boot n
mux_right cfg r mux (message.Unprogrammed epoch boot n) = ack_right cfg r unprogrammed_by mux epoch boot n
mux_right cfg r mux _ = tt

enqueue_right : (cfg : ConfigParts) (q r : Manager) (c : LogCommand) → HalfTells cfg q (enqueue r c)
unfolding enqueue
enqueue_right cfg q r c = by_if (HalfTells cfg q) (is_waiting r c) {x = stops (drop_turn r Waiting)} (λ _. tt)
    (λ _. by_if (HalfTells cfg q) (nat_le most_queued (length r.queue)) {x = stops (drop_turn r QueueFull)}
    {y = goes_on (quiet (record r { queue = r.queue ++ c ∷ [] }))} (λ _. tt) (λ _. tt))

leased_phase : (p : Phase) → is_being p ≡ false → is_freeing p ≡ false → p ≡ Leased
leased_phase BeingLeased b f = absurd (cc)
leased_phase Leased b f = refl
leased_phase Freeing b f = absurd (cc)

grant_right : (cfg : ConfigParts) (r : Manager) (n : ℕ) (o : Option Row) → row_at (leases cfg r).rows n ≡ o
    → HalfTells cfg r (grant_again r o)
grant_right cfg r n None e = tt
grant_right cfg r n (Some row) e = by_if (HalfTells cfg r) (is_being row.phase) {x = stops (drop_turn r Waiting)}
    (λ _. tt)
    (λ being. by_if (HalfTells cfg r) (is_freeing row.phase) {x = stops (drop_turn r Late)}
    {y = goes_on (says r (grant_of row ∷ []))} (λ _. tt)
    (λ freeing. grant_answer (MayGrant cfg r None) row
    (inr (found_in (λ (x : Row). x.n == n) (leases cfg r).rows row e, leased_phase row.phase being freeing))))

answer_right : (cfg : ConfigParts) (r : Manager) (agent boot : ℕ) (machine : Ip4) (seq : ℕ) (o : Outcome)
    → HalfTells cfg r (answer_again cfg r agent boot machine seq o)
answer_right cfg r agent boot machine seq (Reserved range n) = grant_right cfg r n (row_at (leases cfg r).rows n) refl
answer_right cfg r agent boot machine seq (Exhausted place) = (omega arith, tt)
answer_right cfg r agent boot machine seq (AtLimit count) = (omega arith, tt)

after_right : (cfg : ConfigParts) (r : Manager) (agent boot : ℕ) (machine : Ip4) (seq : ℕ) (o : Option Last)
    → HalfTells cfg r (ask_after cfg r agent boot machine seq o)
unfolding ask_after
after_right cfg r agent boot machine seq None = enqueue_right cfg r r (Reserve agent boot machine seq)
after_right cfg r agent boot machine seq (Some last) = by_if (HalfTells cfg r) (is_later boot seq (Some last))
    (λ _. enqueue_right cfg r r (Reserve agent boot machine seq))
    (λ _. by_if (HalfTells cfg r) ((last.boot == boot) && (last.seq == seq)) {y = stops (drop_turn r Late)}
    (λ _. answer_right cfg r agent boot machine seq last.outcome) (λ _. tt))

ask_right : (cfg : ConfigParts) (r : Manager) (agent boot : ℕ) (machine : Ip4) (seq : ℕ)
    → HalfTells cfg r (on_ask cfg r agent boot machine seq)
unfolding on_ask
ask_right cfg r agent boot machine seq =
    by_if (HalfTells cfg r) (not (is_primary r.memory.leader.stage)) {x = stops (drop_turn r NotPrimary)} (λ _. tt)
    (λ _. by_if (HalfTells cfg r) (not (is_agents agent (rule_of (lease_rules_of cfg) machine)))
    {x = stops (drop_turn r NotMine)} (λ _. tt)
    (λ _. by_if (HalfTells cfg r) (nat_lt boot (known_boot (leases cfg r).known agent)) {x = stops (drop_turn r Late)}
    (λ _. tt)
    (λ _. after_right cfg r agent boot machine seq (last_of (leases cfg r).lasts machine))))

return_right : (cfg : ConfigParts) (r : Manager) (agent boot n : ℕ) (o : Option Row)
    → HalfTells cfg r (return_of r agent boot n o)
return_right cfg r agent boot n None = (tt, tt)
return_right cfg r agent boot n (Some row) =
    by_if (HalfTells cfg r) (not ((row.agent == agent) && (row.boot == boot))) {x = stops (drop_turn r NotMine)}
    (λ _. tt)
    (λ _. by_if (HalfTells cfg r) (is_freeing row.phase) {x = returned r agent boot n} (λ _. (tt, tt))
    (λ _. enqueue_right cfg r r (Release n)))

back_right : (cfg : ConfigParts) (r : Manager) (agent boot n : ℕ) → HalfTells cfg r (on_return cfg r agent boot n)
unfolding on_return
back_right cfg r agent boot n =
    by_if (HalfTells cfg r) (not (is_primary r.memory.leader.stage)) {x = stops (drop_turn r NotPrimary)} (λ _. tt)
    (λ _. by_if (HalfTells cfg r) ((n == 0) || nat_lt (16 * reach r.acceptor) n) {x = stops (drop_turn r Unknown)}
    (λ _. tt)
    (λ _. return_right cfg r agent boot n (row_at (leases cfg r).rows n)))

up_right : (cfg : ConfigParts) (r : Manager) (agent boot : ℕ) → HalfTells cfg r (on_agent_up cfg r agent boot)
unfolding on_agent_up
up_right cfg r agent boot =
    by_if (HalfTells cfg r) (not (is_primary r.memory.leader.stage)) {x = stops (drop_turn r NotPrimary)} (λ _. tt)
    (λ _. by_if (HalfTells cfg r) (nat_lt boot (known_boot (leases cfg r).known agent)) {x = stops (drop_turn r Late)}
    (λ _. tt)
    (λ _. by_if (HalfTells cfg r) (boot == known_boot (leases cfg r).known agent)
    {x = goes_on (says r (tell (Agent agent) (message.AgentKnown boot) ∷ []))}
    (λ _. (tt, tt)) (λ _. enqueue_right cfg r r (Up agent boot))))

agent_right : (cfg : ConfigParts) (r : Manager) (agent : ℕ) (m : Message) → HalfTells cfg r (from_agent cfg r agent m)
agent_right cfg r agent (message.Ask boot machine seq) = ask_right cfg r agent boot machine seq
agent_right cfg r agent (message.Return boot n) = back_right cfg r agent boot n
agent_right cfg r agent (message.AgentUp boot) = up_right cfg r agent boot
agent_right cfg r agent _ = tt

runs_right : (cfg : ConfigParts) (q r : Manager) (o : Out) → TellsRight cfg q (runs_for cfg r o)
runs_right cfg q r o = by_if (TellsRight cfg q) (is_some o.entry) {y = quiet r}
    (λ _. agreed _ cfg (record r { acks = []; queue = [] }) o) (λ _. tt)

tick_right : (cfg : ConfigParts) (m : Manager) (now : ℕ) → HalfTells cfg m (on_tick cfg m now)
unfolding on_tick
tick_right cfg m now =
    let r : Manager = record m { time = max m.time now } in
    by_if (HalfTells cfg m) (is_primary r.memory.leader.stage) {x = goes_on (leads cfg r)} (λ _. leads_answer _ cfg r)
    (λ _. by_if (HalfTells cfg m) (nat_le cfg.timers.lead_silent (r.time - r.heard))
    {x = stops (runs_for cfg r (on_campaign r.index r.acceptor r.memory))} {y = stops (quiet r)}
    (λ _. runs_right cfg m r (on_campaign r.index r.acceptor r.memory)) (λ _. tt))

hears_right : (cfg : ConfigParts) (r : Manager) (y : NodeId) (m : Message) → HalfTells cfg r (manager_hears cfg r y m)
unfolding manager_hears
hears_right cfg r (Replica j) m = replica_right cfg r j m
hears_right cfg r (Mux j) m = mux_right cfg r j m
hears_right cfg r (Agent j) m = agent_right cfg r j m

heard_right : (cfg : ConfigParts) (r : Manager) (a : Heard)
    → HalfTells cfg r (by_heard (refuses r) (manager_hears cfg r) (manager_takes r) a)
heard_right cfg r (Refused cause) = tt
heard_right cfg r (Told y m) = hears_right cfg r y m
heard_right cfg r (Brought sender packet) = tt

half_right : (cfg : ConfigParts) (r : Manager) (x : Input) → HalfTells cfg r (manager_half cfg r x)
unfolding manager_half
half_right cfg r (Ticked now) = tick_right cfg r now
half_right cfg r (Arrived from bytes) = heard_right cfg r (heard cfg from bytes)

-- ---- a whole turn

propose_mails : (cfg : ConfigParts) (r : Manager) → Mailing (propose cfg r)
unfolding propose
propose_mails cfg r Good =
    by_if (λ (t : Turn Manager). AllAnswer Good t.sends) (may_propose r.acceptor r.memory.leader)
    {x = filled cfg r (first_due cfg r)} {y = quiet r}
    (λ _. by_if (λ (t : Turn Manager). AllAnswer Good t.sends) (length (proposed cfg r) == 0) {x = quiet r} (λ _. tt)
    (λ _. agreed Good cfg (record r { queue = drop (16 - length (first_due cfg r)) r.queue }) _))
    (λ _. tt)

none_learned : (cfg : ConfigParts) (r : Manager) (row : Row)
    → In (effect.Granted row) (effects_of (lease_rules_of cfg) r.acceptor None) → ⊥
unfolding effects_of
none_learned cfg r row h = h

may_first : (cfg : ConfigParts) (r : Manager) (e f : Option Entry) (row : Row) → MayGrant cfg r e row
    → MayGrant cfg r (first_of e f) row
may_first cfg r (Some e) f row h = h
may_first cfg r None f row (inl h) = absurd (none_learned cfg r row h)
may_first cfg r None f row (inr h) = inr h

pub for_on : (P Q : Row → Type 0) → ((row : Row) → P row → Q row) → (agent : ℕ) (m : Message) → ForAgent P agent m
    → ForAgent Q agent m
for_on P Q f agent (message.Grant boot machine seq n vip start) h = record {
  row = h.row;
  good = f h.row h.good;
  agent_is = h.agent_is;
  boot_is = h.boot_is;
  machine_is = h.machine_is;
  n_is = h.n_is;
  vip_is = h.vip_is;
  start_is = h.start_is;
}
for_on P Q f agent (message.Denied boot machine seq reason number) h = h
for_on P Q f agent (message.Returned boot n) h = tt
for_on P Q f agent (message.AgentKnown boot) h = tt
for_on P Q f agent (message.Prepare c) h = absurd h
for_on P Q f agent (message.Promise c l vote value) h = absurd h
for_on P Q f agent (message.Accept c t v) h = absurd h
for_on P Q f agent (message.Accepted c t) h = absurd h
for_on P Q f agent (message.Refuse c p) h = absurd h
for_on P Q f agent (message.Chosen t c v) h = absurd h
for_on P Q f agent (message.Fetch t) h = absurd h
for_on P Q f agent (message.Ask boot machine seq) h = absurd h
for_on P Q f agent (message.Return boot n) h = absurd h
for_on P Q f agent (message.AgentUp boot) h = absurd h
for_on P Q f agent (message.MuxHello boot epoch) h = absurd h
for_on P Q f agent (message.Program epoch boot n vip start machine) h = absurd h
for_on P Q f agent (message.Programmed epoch boot n) h = absurd h
for_on P Q f agent (message.Unprogram epoch boot n vip start) h = absurd h
for_on P Q f agent (message.Unprogrammed epoch boot n) h = absurd h
for_on P Q f agent (message.MuxRefuse epoch boot keeps) h = absurd h
for_on P Q f agent (message.Lead c l) h = absurd h
for_on P Q f agent (message.RedirectAsk src sport dst dport machine) h = absurd h
for_on P Q f agent (message.Redirect side n src sport dst dport opener server) h = absurd h

pub answers_on : (P Q : Row → Type 0) → ((row : Row) → P row → Q row) → (to : Place) (said : Said) → Answers P to said
    → Answers Q to said
answers_on P Q f (ToNode (Replica i)) said h = tt
answers_on P Q f (ToNode (Mux i)) said h = tt
answers_on P Q f (ToNode (Agent agent)) (Says m) h = for_on P Q f agent m h
answers_on P Q f (ToNode (Agent agent)) (Carries packet) h = absurd h
answers_on P Q f (ToMachine machine) said h = tt
answers_on P Q f ToRouter said h = tt

whole_right : (cfg : ConfigParts) (r : Manager) (h : Half) → HalfTells cfg r h → TellsRight cfg r (whole cfg h)
unfolding whole
whole_right cfg r h right = by_if (TellsRight cfg r) h.proposes {y = h.turn}
    (λ _. each_append _ h.turn.sends (propose cfg h.turn.state).sends
    (each_on (λ (x : Send). Answers (MayGrant cfg r h.turn.entry) x.to x.said) _
    (λ x k. answers_on (MayGrant cfg r h.turn.entry)
    (MayGrant cfg r (first_of h.turn.entry (propose cfg h.turn.state).entry))
    (may_first cfg r h.turn.entry (propose cfg h.turn.state).entry) x.to x.said k) h.turn.sends right)
    (propose_mails cfg h.turn.state _))
    (λ _. right)

-- what a replica tells agents in a turn
pub step_right : (cfg : ConfigParts) (r : Manager) (x : Input) → TellsRight cfg r (manager_step cfg r x)
unfolding manager_step
step_right cfg r x = whole_right cfg r (manager_half cfg r x) (half_right cfg r x)
