-- What a replica keeps, writes and says of the agreement fits its width, where what it hears does.
use Rattle.std.proofs.Common.{◌≡◌, refl, sym, ap, subst, ◌∙◌, ℕ, zero, suc, ◌+◌, ◌*◌, ◌-◌, ◌^◌, ◌<◌, ◌≤◌, max, Bool, true, false, not, List, [], ◌∷◌, ◌++◌, map, filter, take, drop, length, Option, Some, None, if◌then◌else◌, nat_lt, nat_le, arith}
use Rattle.std.specs.Prelude.{◌==◌, ◌&&◌, cond, slice_set, slice_index_or}
use Rattle.std.specs.List.{flat_map, list_all}
use Rattle.std.proofs.lemmas.Bool.Decides.{nat_tests}
use Rattle.std.proofs.lemmas.List.{length-append, length-map, length-set}
use Rattle.wire_core.specs.Commands.{LogCommand, Reserve, Release, Freed, Up, IsAllowed, IsValue, IsMuxBoot, AreNamed, AscendsFrom}
use Rattle.wire_core.specs.Members.{Each}
use Rattle.wire_core.specs.Steps.{first_of}
use Rattle.wire_core.specs.declared.address.Ip4.{Ip4}
use Rattle.wire_core.specs.declared.address.Socket.{Socket}
use Rattle.wire_core.specs.declared.cause.DropCause.{DropCause}
use Rattle.wire_core.specs.declared.cause.DropCause.TheVariants.{WrongRole}
use Rattle.wire_core.specs.declared.entry.Entry.{Entry}
use Rattle.wire_core.specs.declared.node.NodeId.{NodeId}
use Rattle.wire_core.specs.declared.node.NodeId.TheVariants.{Replica, Mux, Agent}
use Rattle.wire_core.specs.declared.rules.LeaseRules.{LeaseRules}
use Rattle.control_msg.specs.Messages.{IsMessage, IsNumber}
use Rattle.control_msg.specs.declared.message.Message.{Message}
use Rattle.control_msg.specs.declared.message.Message.TheVariants as message
use Rattle.vip_config.specs.declared.parts.ConfigParts.{ConfigParts}
use Rattle.vip_config.specs.Leases.{lease_rules_of}
use Rattle.lease_spec.specs.declared.row.Row.{Row}
use Rattle.lease_spec.specs.Lives.{HasCause}
use Rattle.lease_spec.specs.Places.{Placed, slot_commands, commands_from, commands, AreShort}
use Rattle.lease_spec.specs.Table.{history, table, is_being, is_freeing}
use Rattle.lease_spec.specs.Truths.{RowTold}
use Rattle.lease_spec.proofs.CauseLaws.{all_caused}
use Rattle.lease_spec.proofs.TruthLaws.{rows_told}
use Rattle.lease_spec.proofs.PlaceLaws.{slot_within}
use Rattle.lease_spec.proofs.MemberLaws.{each_append, each_on, each_in}
use Rattle.paxos_spec.specs.declared.cast.Cast.{Cast}
use Rattle.paxos_spec.specs.declared.mail.Body.{Body}
use Rattle.paxos_spec.specs.declared.mail.Body.TheVariants as body
use Rattle.paxos_spec.specs.Votes.{Value}
use Rattle.paxos_spec.specs.Acceptor.{AcceptorState, reach, kept, most_slots, state_of}
use Rattle.paxos_spec.specs.Leader.{is_primary, is_follower}
use Rattle.paxos_spec.specs.Replica.{Memory, Out, down}
use Rattle.node_spec.specs.Datagrams.{Heard, Refused, Told, Brought, heard, by_heard}
use Rattle.node_spec.specs.Turns.{Input, Arrived, Ticked, Turn, also, drop_turn}
use Rattle.manager_spec.specs.declared.marks.Marks.{Marks}
use Rattle.manager_spec.specs.declared.peer.Peer.{Peer}
use Rattle.manager_spec.specs.Manager.{Manager, new_peers, opened_manager, values_of, leases_of, agrees}
use Rattle.manager_spec.specs.Known.{no_peer, peer, hear_mux, has_boot, running, marks_at, is_acked, is_acked_ever}
use Rattle.manager_spec.specs.Leading.{with_seen, led, on_prepare, on_promise, on_refuse, on_lead}
use Rattle.manager_spec.specs.Voting.{on_accept, completes, on_accepted, on_chosen, on_fetched}
use Rattle.manager_spec.specs.Clock.{on_tick}
use Rattle.manager_spec.specs.Muxes.{see_epoch, on_hello, on_mux_refuse, on_ack, programmed_by, unprogrammed_by}
use Rattle.manager_spec.specs.Agents.{enqueue, ask_after, on_ask, on_return, on_agent_up}
use Rattle.manager_spec.specs.Proposal.{Half, holders, mux_boot, is_granted, grant_due, freed_due, due, first_due, propose, whole}
use Rattle.manager_spec.specs.ManagerTable.{refuses, from_replica, from_mux, from_agent, manager_hears, manager_takes, manager_half, manager_step}
use Rattle.manager_spec.specs.Agreement.{IsStep, body_in, mails_in, mux_memory, replica_step, message_step, tick_step, proposed, proposal_step}
use Rattle.manager_spec.specs.Footprints.{LeavesAllButOffer}
use Rattle.manager_spec.proofs.AgreedRows.{tick_is}
use Rattle.manager_spec.proofs.Choices.{by_if}
use Rattle.manager_spec.proofs.LeasedRows.{message_is, proposal_is}
use Rattle.manager_spec.proofs.Leaves.{replica_leaves, tick_leaves, agent_leaves, proposal_leaves}
use Rattle.manager_spec.proofs.Mails.{mails_append}
use Rattle.world_laws.specs.Widths.{CastFits, AcceptorFits, MemoryFits, KeptFits, MailFits, OutFits, PeersFit, ManagerFits}
use Rattle.world_laws.specs.Hearing.{HeardFits}
use Rattle.world_laws.proofs.StepWidths.{slot_number, quiet_fits, reply_fits, goal_fits, down_fits, new_memory_fits, kept_fits, again_fits, message_fits, campaign_fits, offer_fits}

-- ---- steps of the agreement

seen_fits : (m : Memory) (c : ℕ) → MemoryFits m → MemoryFits (with_seen m c)
seen_fits m c fits = record { leader = fits.leader; guide = fits.guide }

epoch_fits : (m : Memory) (epoch : ℕ) → MemoryFits m → MemoryFits (see_epoch m epoch)
epoch_fits m epoch fits = by_if MemoryFits (nat_lt m.leader.ballot epoch && not (is_follower m.leader.stage))
    (λ _. seen_fits (down m) epoch (down_fits m fits)) (λ _. seen_fits m epoch fits)

mux_fits : (m : Manager) (mux : ℕ) (x : Message) → MemoryFits m.memory → MemoryFits (mux_memory m mux x)
mux_fits m mux (message.MuxHello boot epoch) fits = by_if MemoryFits (nat_lt boot (peer m mux).boot) {x = m.memory}
    (λ _. fits) (λ _. epoch_fits m.memory epoch fits)
mux_fits m mux (message.MuxRefuse epoch boot kept) fits = epoch_fits m.memory kept fits
mux_fits m mux _ fits = fits

below_number : (a b : ℕ) → nat_lt a b ≡ true → IsNumber b → IsNumber a
below_number a b e fits = grind (arith, nat_tests)

lead_fits : (cfg : ConfigParts) (m : Manager) (from ballot length : ℕ) → ManagerFits cfg m → from < 5
    → OutFits (led m from ballot length)
lead_fits cfg m from ballot length fits lt =
    by_if OutFits (nat_lt ballot m.acceptor.promise)
    (λ lower. reply_fits m.memory m.index (body.Refuse ballot m.acceptor.promise) from fits.memory lt
    (below_number ballot m.acceptor.promise lower fits.acceptor.promise, fits.acceptor.promise))
    (λ _. by_if OutFits (nat_lt (reach m.acceptor) length)
    (λ _. reply_fits _ m.index (body.Fetch (reach m.acceptor)) from
    (goal_fits (with_seen m.memory ballot) length from (seen_fits m.memory ballot fits.memory) lt) lt
    (slot_number (reach m.acceptor) fits.acceptor.room))
    (λ _. quiet_fits (with_seen m.memory ballot) (seen_fits m.memory ballot fits.memory)))

body_fits : (cfg : ConfigParts) (m : Manager) (j : ℕ) (x : Message) → ManagerFits cfg m → j < 5
    → ((b : Body) → body_in x ≡ Some b → IsMessage x) → OutFits (replica_step m j x)
body_fits cfg m j (message.Prepare c) fits lt is =
    message_fits m.index m.acceptor m.memory j (body.Prepare c) fits.acceptor fits.memory lt (is _ refl)
body_fits cfg m j (message.Promise c l vote value) fits lt is =
    message_fits m.index m.acceptor m.memory j (body.Promise c l vote value) fits.acceptor fits.memory lt (is _ refl)
body_fits cfg m j (message.Accept c t v) fits lt is =
    message_fits m.index m.acceptor m.memory j (body.Accept c t v) fits.acceptor fits.memory lt (is _ refl)
body_fits cfg m j (message.Accepted c t) fits lt is =
    message_fits m.index m.acceptor m.memory j (body.Accepted c t) fits.acceptor fits.memory lt (is _ refl)
body_fits cfg m j (message.Refuse c p) fits lt is =
    message_fits m.index m.acceptor m.memory j (body.Refuse c p) fits.acceptor fits.memory lt (is _ refl)
body_fits cfg m j (message.Chosen t c v) fits lt is =
    message_fits m.index m.acceptor m.memory j (body.Chosen t c v) fits.acceptor fits.memory lt (is _ refl)
body_fits cfg m j (message.Fetch t) fits lt is =
    message_fits m.index m.acceptor m.memory j (body.Fetch t) fits.acceptor fits.memory lt (is _ refl)
body_fits cfg m j (message.Lead ballot length) fits lt is = lead_fits cfg m j ballot length fits lt
body_fits cfg m j _ fits lt is = quiet_fits m.memory fits.memory

step_fits : (cfg : ConfigParts) (m : Manager) (from : NodeId) (x : Message) → ManagerFits cfg m → HeardFits (Told from x)
    → OutFits (message_step m from x)
step_fits cfg m (Replica j) x fits is = body_fits cfg m j x fits is.0 is.1
step_fits cfg m (Mux j) x fits is = quiet_fits _ (mux_fits m j x fits.memory)
step_fits cfg m (Agent j) x fits is = quiet_fits m.memory fits.memory

clock_fits : (cfg : ConfigParts) (m : Manager) (now : ℕ) → ManagerFits cfg m → OutFits (tick_step cfg m now)
clock_fits cfg m now fits = by_if OutFits (is_primary m.memory.leader.stage)
    (λ _. record {
      entry = tt;
      memory = fits.memory;
      sends = again_fits m.index (reach m.acceptor) m.memory.leader fits.memory.leader
          (slot_number (reach m.acceptor) fits.acceptor.room);
    })
    (λ _. by_if OutFits (nat_le cfg.timers.lead_silent (max m.time now - m.heard))
    (λ _. campaign_fits m.index m.acceptor m.memory fits.memory) (λ _. quiet_fits m.memory fits.memory))

-- ---- what waits

pub each_one_more : (P : LogCommand → Type 0) (cs : List LogCommand) (c : LogCommand) → Each P cs → P c → Each P (cs ++ c ∷ [])
each_one_more P cs c h p = each_append P cs (c ∷ []) h (p, tt)

pub replica_queue : (P : LogCommand → Type 0) (cfg : ConfigParts) (m : Manager) (j : ℕ) (x : Message) → Each P m.queue
    → Each P (from_replica cfg m j x).turn.state.queue
unfolding on_prepare on_promise on_accept on_accepted completes on_refuse on_chosen on_fetched on_lead agrees
replica_queue P cfg m j x h = grind arith

pub tick_queue : (P : LogCommand → Type 0) (cfg : ConfigParts) (m : Manager) (now : ℕ) → Each P m.queue
    → Each P (on_tick cfg m now).turn.state.queue
unfolding on_tick agrees
tick_queue P cfg m now h = grind arith

pub mux_queue : (P : LogCommand → Type 0) (cfg : ConfigParts) (m : Manager) (j : ℕ) (x : Message) → Each P m.queue
    → Each P (from_mux cfg m j x).turn.state.queue
unfolding on_hello on_mux_refuse on_ack
mux_queue P cfg m j x h = grind arith

enqueue_queue : (P : LogCommand → Type 0) (m : Manager) (c : LogCommand) → Each P m.queue → P c
    → Each P (enqueue m c).turn.state.queue
unfolding enqueue
enqueue_queue P m c h p = grind (arith, each_one_more P m.queue c h p)

pub ask_queue : (P : LogCommand → Type 0) (cfg : ConfigParts) (m : Manager) (agent boot : ℕ) (machine : Ip4) (seq : ℕ)
    → Each P m.queue → P (Reserve agent boot machine seq)
    → Each P (on_ask cfg m agent boot machine seq).turn.state.queue
unfolding on_ask ask_after
ask_queue P cfg m agent boot machine seq h p =
    grind (arith, enqueue_queue P m (Reserve agent boot machine seq) h p)

pub return_queue : (P : LogCommand → Type 0) (cfg : ConfigParts) (m : Manager) (agent boot n : ℕ) → Each P m.queue
    → P (Release n) → Each P (on_return cfg m agent boot n).turn.state.queue
unfolding on_return
return_queue P cfg m agent boot n h p = grind (arith, enqueue_queue P m (Release n) h p)

pub up_queue : (P : LogCommand → Type 0) (cfg : ConfigParts) (m : Manager) (agent boot : ℕ) → Each P m.queue
    → P (Up agent boot) → Each P (on_agent_up cfg m agent boot).turn.state.queue
unfolding on_agent_up
up_queue P cfg m agent boot h p = grind (arith, enqueue_queue P m (Up agent boot) h p)

agent_queue : (cfg : ConfigParts) (m : Manager) (j : ℕ) (x : Message) → Each IsAllowed m.queue → j < 2 ^ 16 → IsMessage x
    → Each IsAllowed (from_agent cfg m j x).turn.state.queue
agent_queue cfg m j (message.Ask boot machine seq) h lt is =
    ask_queue IsAllowed cfg m j boot machine seq h (lt, is.0, is.1, is.2)
agent_queue cfg m j (message.Return boot n) h lt is = return_queue IsAllowed cfg m j boot n h is.1
agent_queue cfg m j (message.AgentUp boot) h lt is = up_queue IsAllowed cfg m j boot h (lt, is)
agent_queue cfg m j _ h lt is = h

-- ---- the muxes

boot_fits : (i : ℕ) (ps : List Peer) (k : ℕ) → PeersFit i ps → IsNumber (slice_index_or ps k no_peer).boot
boot_fits i [] k h = omega arith
boot_fits i (p ∷ ps) zero h = h.1
boot_fits i (p ∷ ps) (suc k) h = boot_fits (i + 1) ps k h.2

set_fits : (i : ℕ) (ps : List Peer) (k : ℕ) (p : Peer) → PeersFit i ps → p.mux ≡ i + k → IsNumber p.boot
    → PeersFit i (slice_set ps k p)
set_fits i [] k p h is fits = tt
set_fits i (q ∷ ps) zero p h is fits = (let e = is in omega arith, fits, h.2)
set_fits i (q ∷ ps) (suc k) p h is fits = (h.0, h.1, set_fits (i + 1) ps k p h.2 (omega arith) fits)

-- the muxes once one was heard in a boot
hear_fits : (m : Manager) (mux boot : ℕ) → PeersFit 0 m.muxes → IsNumber boot → PeersFit 0 (hear_mux m mux boot).muxes
hear_fits m mux boot h fits = set_fits 0 m.muxes mux _ h (omega arith)
    (let known = boot_fits 0 m.muxes mux h in omega arith)

-- as many muxes as are configured, each with its number and a boot
record MuxesFit (cfg : ConfigParts) (ps : List Peer) : Type 0 where
  fits : PeersFit 0 ps
  count : length ps ≡ length cfg.muxes

hear_muxes : (cfg : ConfigParts) (m : Manager) (mux boot : ℕ) → ManagerFits cfg m → IsNumber boot
    → MuxesFit cfg (hear_mux m mux boot).muxes
hear_muxes cfg m mux boot h fits =
    record { fits = hear_fits m mux boot h.muxes fits; count = length-set m.muxes mux _ ∙ h.count }

stay_muxes : (cfg : ConfigParts) (m : Manager) → ManagerFits cfg m → MuxesFit cfg m.muxes
stay_muxes cfg m h = record { fits = h.muxes; count = h.count }

-- what a mux said leaves the muxes, or hears one
hello_muxes : (P : List Peer → Type 0) (cfg : ConfigParts) (m : Manager) (mux boot epoch : ℕ) → P m.muxes
    → P (hear_mux m mux boot).muxes → P (on_hello cfg m mux boot epoch).turn.state.muxes
unfolding on_hello
hello_muxes P cfg m mux boot epoch old new = by_if (λ (h : Half). P h.turn.state.muxes) (nat_lt boot (peer m mux).boot)
    (λ _. old) (λ _. new)

refuse_muxes : (P : List Peer → Type 0) (cfg : ConfigParts) (m : Manager) (mux boot epoch : ℕ)
    → P (hear_mux m mux boot).muxes → P (on_mux_refuse cfg m mux boot epoch).turn.state.muxes
unfolding on_mux_refuse
refuse_muxes P cfg m mux boot epoch new = new

ack_muxes : (P : List Peer → Type 0) (cfg : ConfigParts) (m : Manager) (f : Marks → ℕ → ℕ → Marks) (mux epoch boot n : ℕ)
    → P m.muxes → P (hear_mux m mux boot).muxes → P (on_ack cfg m f mux epoch boot n).turn.state.muxes
unfolding on_ack
ack_muxes P cfg m f mux epoch boot n old new = by_if (λ (h : Half). P h.turn.state.muxes) _ (λ _. new) (λ _. old)

mux_muxes : (cfg : ConfigParts) (m : Manager) (j : ℕ) (x : Message) → ManagerFits cfg m → IsMessage x
    → MuxesFit cfg (from_mux cfg m j x).turn.state.muxes
mux_muxes cfg m j (message.MuxHello boot epoch) h is =
    hello_muxes (MuxesFit cfg) cfg m j boot epoch (stay_muxes cfg m h) (hear_muxes cfg m j boot h is.0)
mux_muxes cfg m j (message.MuxRefuse epoch boot kept) h is =
    refuse_muxes (MuxesFit cfg) cfg m j boot kept (hear_muxes cfg m j boot h is.1)
mux_muxes cfg m j (message.Programmed epoch boot n) h is =
    ack_muxes (MuxesFit cfg) cfg m programmed_by j epoch boot n (stay_muxes cfg m h) (hear_muxes cfg m j boot h is.1)
mux_muxes cfg m j (message.Unprogrammed epoch boot n) h is =
    ack_muxes (MuxesFit cfg) cfg m unprogrammed_by j epoch boot n (stay_muxes cfg m h) (hear_muxes cfg m j boot h is.1)
mux_muxes cfg m j _ h is = stay_muxes cfg m h

muxes_on : (cfg : ConfigParts) (ps qs : List Peer) → qs ≡ ps → MuxesFit cfg ps → MuxesFit cfg qs
muxes_on cfg ps qs same h = subst (MuxesFit cfg) (sym same) h

-- ---- what is due

-- places of a log lie below its end
places_below : (slot : ℕ) (values : List Value) → AreShort values
    → Each (λ (c : Placed). c.place < 16 * (slot + length values) + 1) (commands_from slot values)
places_below slot [] short = tt
places_below slot (value ∷ values) short = each_append _ (slot_commands slot value) (commands_from (slot + 1) values)
    (each_on _ _ (λ c h. (let high = h.1 in omega arith)) (slot_commands slot value) (slot_within slot value short.0))
    (each_on _ _ (λ c h. omega arith) (commands_from (slot + 1) values) (places_below (slot + 1) values short.1))

row_below : (rules : LeaseRules) (values : List Value) (row : Row) → AreShort values
    → RowTold (history rules (commands values)) row → row.n < 16 * length values + 1
row_below rules values row short told =
    let cause : HasCause (commands values) _ = each_in _ _ _ (all_caused rules (commands values)) told.was.birth.done in
    let place : cause.command.place < 16 * (0 + length values) + 1 =
    each_in _ (commands values) cause.command (places_below 0 values short) cause.there in
    let same : cause.command.place ≡ told.was.born.n = cause.causes.0 in
    let number : told.was.born.n ≡ row.n = told.was.birth.number in
    omega arith

short_log : (log : List Cast) → Each CastFits log → AreShort (map (λ (x : Cast). x.value) log)
short_log [] h = tt
short_log (x ∷ log) h = (h.0.1.few, short_log log h.1)

-- the numbers of the rows that a log leaves
rows_number : (rules : LeaseRules) (a : AcceptorState) → AcceptorFits a
    → Each (λ (row : Row). IsNumber row.n) (leases_of rules a).rows
unfolding leases_of
rows_number rules a fits =
    let values : List Value = values_of a in
    let short : AreShort values = short_log a.log fits.log in
    let count : length values ≡ length a.log = length-map _ _ in
    let room : reach a ≤ most_slots = fits.room in
    each_on _ _ (λ row told. (let below = row_below rules values row short told in omega arith))
    (table rules values).rows (rows_told rules (commands values))

-- the muxes from a number on, in order
abbrev Ordered : ℕ → List Peer → Type 0
Ordered i [] = Unit {0}
Ordered i (p ∷ ps) = (i ≤ p.mux) × IsMuxBoot (mux_boot p) × Ordered (p.mux + 1) ps

ordered_from : (i j : ℕ) (ps : List Peer) → i ≤ j → Ordered j ps → Ordered i ps
ordered_from i j [] le h = tt
ordered_from i j (p ∷ ps) le h = (let first = h.0 in omega arith, h.1, h.2)

ordered_peers : (i : ℕ) (ps : List Peer) → i + length ps ≤ 16 → PeersFit i ps → Ordered i ps
ordered_peers i [] few h = tt
ordered_peers i (p ∷ ps) few h =
    let number : p.mux ≡ i = h.0 in
    (omega arith, (omega arith, h.1), ordered_from (p.mux + 1) (i + 1) ps (omega arith) (ordered_peers (i + 1) ps (omega arith) h.2))

ordered_filter : (q : Peer → Bool) (i : ℕ) (ps : List Peer) → Ordered i ps → Ordered i (filter q ps)
ordered_filter q i [] h = tt
ordered_filter q i (p ∷ ps) h = by (q p) (ordered_filter q (p.mux + 1) ps h.2)
  where
    by : (b : Bool) → Ordered (p.mux + 1) (filter q ps) → Ordered i (cond b (p ∷ filter q ps) (filter q ps))
    by true rest = (h.0, h.1, rest)
    by false rest = ordered_from i (p.mux + 1) (filter q ps) (let first = h.0 in omega arith) rest

shorter : {X : Type 0} (q : X → Bool) (xs : List X) → length (filter q xs) ≤ length xs
shorter q [] = omega arith
shorter q (x ∷ xs) = by (q x) (shorter q xs)
  where
    by : (b : Bool) → length (filter q xs) ≤ length xs → length (cond b (x ∷ filter q xs) (filter q xs)) ≤ suc (length xs)
    by true h = omega arith
    by false h = omega arith

ascends : (i : ℕ) (ps : List Peer) → Ordered i ps → AscendsFrom i (map mux_boot ps)
ascends i [] h = tt
ascends i (p ∷ ps) h = (h.0, ascends (p.mux + 1) ps h.2)

each_boot : (i : ℕ) (ps : List Peer) → Ordered i ps → Each IsMuxBoot (map mux_boot ps)
each_boot i [] h = tt
each_boot i (p ∷ ps) h = (h.1, each_boot (p.mux + 1) ps h.2)

named : (cfg : ConfigParts) (m : Manager) (marks : Marks) → ManagerFits cfg m → length cfg.muxes ≤ 16
    → is_granted cfg m marks ≡ true → AreNamed (map mux_boot (holders (running m) marks))
named cfg m marks h few is =
    let hs : List Peer = holders (running m) marks in
    let all : Ordered 0 m.muxes = ordered_peers 0 m.muxes (let c = h.count in omega arith) h.muxes in
    let some : Ordered 0 hs =
    ordered_filter (is_acked marks.programmed) 0 (running m) (ordered_filter has_boot 0 m.muxes all) in
    let count : length (map mux_boot hs) ≡ length hs = length-map _ _ in
    record {
      some = (let first = first_holds _ _ is in at_least (length (map mux_boot hs)) (length hs) count first);
      few = (let a = shorter (is_acked marks.programmed) (running m) in let b = shorter has_boot m.muxes in
          let c = h.count in omega arith);
      ascend = ascends 0 hs some;
      fields = each_boot 0 hs some;
    }
  where
    first_holds : (a b : Bool) → (a && b) ≡ true → a ≡ true
    first_holds true b e = refl
    first_holds false b e = absurd (cc)

    at_least : (a b : ℕ) → a ≡ b → nat_lt 0 b ≡ true → 0 < a
    at_least a b e lt = grind (arith, nat_tests)

grant_allowed : (cfg : ConfigParts) (m : Manager) (row : Row) → ManagerFits cfg m → length cfg.muxes ≤ 16 → IsNumber row.n
    → Each IsAllowed (grant_due cfg m row)
grant_allowed cfg m row h few number =
    by_if (Each IsAllowed) (is_being row.phase && is_granted cfg m (marks_at m.acks row.n))
    (λ is. ((number, named cfg m (marks_at m.acks row.n) h few (second _ _ is)), tt)) (λ _. tt)
  where
    second : (a b : Bool) → (a && b) ≡ true → b ≡ true
    second true b e = e
    second false b e = absurd (cc)

freed_allowed : (m : Manager) (row : Row) → IsNumber row.n → Each IsAllowed (freed_due m row)
freed_allowed m row number =
    by_if (Each IsAllowed) (is_freeing row.phase && list_all (is_acked_ever (marks_at m.acks row.n).unprogrammed) m.muxes)
    {x = Freed row.n ∷ []} {y = []} (λ _. (number, tt)) (λ _. tt)

each_of_rows : (P : LogCommand → Type 0) (Q : Row → Type 0) (f : Row → List LogCommand) → ((row : Row) → Q row → Each P (f row))
    → (rows : List Row) → Each Q rows → Each P (flat_map f rows)
each_of_rows P Q f h [] k = tt
each_of_rows P Q f h (row ∷ rows) k = each_append P (f row) (flat_map f rows) (h row k.0) (each_of_rows P Q f h rows k.1)

due_allowed : (cfg : ConfigParts) (m : Manager) → ManagerFits cfg m → length cfg.muxes ≤ 16 → Each IsAllowed (due cfg m)
unfolding due
due_allowed cfg m h few =
    let rows : List Row = (leases_of (lease_rules_of cfg) m.acceptor).rows in
    let numbers = rows_number (lease_rules_of cfg) m.acceptor h.acceptor in
    each_append IsAllowed (flat_map (grant_due cfg m) rows) (flat_map (freed_due m) rows)
    (each_of_rows IsAllowed (λ (row : Row). IsNumber row.n) (grant_due cfg m) (λ row k. grant_allowed cfg m row h few k) rows numbers)
    (each_of_rows IsAllowed (λ (row : Row). IsNumber row.n) (freed_due m) (λ row k. freed_allowed m row k) rows numbers)

pub each_take : (P : LogCommand → Type 0) (n : ℕ) (cs : List LogCommand) → Each P cs → Each P (take n cs)
each_take P zero cs h = tt
each_take P (suc n) [] h = tt
each_take P (suc n) (c ∷ cs) h = (h.0, each_take P n cs h.1)

pub each_drop : (P : LogCommand → Type 0) (n : ℕ) (cs : List LogCommand) → Each P cs → Each P (drop n cs)
each_drop P zero cs h = h
each_drop P (suc n) [] h = tt
each_drop P (suc n) (c ∷ cs) h = each_drop P n cs h.1

taken : (n : ℕ) (cs : List LogCommand) → length (take n cs) ≤ n
taken zero cs = omega arith
taken (suc n) [] = omega arith
taken (suc n) (c ∷ cs) = let h = taken n cs in omega arith

-- at most 16 commands are proposed
pub proposed_few : (cfg : ConfigParts) (m : Manager) → length (proposed cfg m) ≤ 16
proposed_few cfg m =
    let a : length (first_due cfg m) ≤ 16 = taken 16 (due cfg m) in
    let b = taken (16 - length (first_due cfg m)) m.queue in
    let e = length-append (first_due cfg m) (take (16 - length (first_due cfg m)) m.queue) in
    omega arith

proposed_is : (cfg : ConfigParts) (m : Manager) → ManagerFits cfg m → length cfg.muxes ≤ 16
    → (length (proposed cfg m) == 0) ≡ false → IsValue (proposed cfg m)
proposed_is cfg m h few some = record {
  some = above (length (proposed cfg m)) some;
  few = proposed_few cfg m;
  fields = each_append IsAllowed (first_due cfg m) _ (each_take IsAllowed 16 (due cfg m) (due_allowed cfg m h few))
      (each_take IsAllowed (16 - length (first_due cfg m)) m.queue h.queue);
}
  where
    above : (n : ℕ) → (n == 0) ≡ false → 0 < n
    above n e = grind (arith, nat_tests)

proposal_fits : (cfg : ConfigParts) (m : Manager) → ManagerFits cfg m → length cfg.muxes ≤ 16
    → OutFits (proposal_step cfg m)
proposal_fits cfg m h few = by_if OutFits (length (proposed cfg m) == 0) (λ _. quiet_fits m.memory h.memory)
    (λ some. offer_fits m.index m.acceptor m.memory (proposed cfg m) h.acceptor h.memory (proposed_is cfg m h few some))

pub propose_queue : (P : LogCommand → Type 0) (cfg : ConfigParts) (m : Manager) → Each P m.queue
    → Each P (propose cfg m).state.queue
unfolding propose agrees
propose_queue P cfg m h = grind (arith, each_drop P (16 - length (first_due cfg m)) m.queue h)

-- ---- a turn

-- what a turn leaves, writes and says of the agreement
pub record TurnFits (cfg : ConfigParts) (me : ℕ) (t : Turn Manager) : Type 0 where
  pub index : t.state.index ≡ me
  pub state : ManagerFits cfg t.state
  pub entry : KeptFits t.entry
  pub sends : Each MailFits (mails_in me t.sends)

turn_of : (cfg : ConfigParts) (m : Manager) (t : Turn Manager) (o : Out) → ManagerFits cfg m → IsStep cfg m t o → OutFits o
    → Each IsAllowed t.state.queue → MuxesFit cfg t.state.muxes → TurnFits cfg m.index t
turn_of cfg m t o h is out queue muxes = record {
  index = is.index;
  state = record {
    acceptor = subst AcceptorFits (sym is.acceptor) (kept_fits m.acceptor o.entry h.acceptor out.entry);
    memory = subst MemoryFits (sym is.memory) out.memory;
    queue = queue;
    muxes = muxes.fits;
    count = muxes.count;
  };
  entry = subst KeptFits (sym is.entry) out.entry;
  sends = subst (Each MailFits) (sym is.mails) out.sends;
}

drop_fits : (cfg : ConfigParts) (m : Manager) (cause : DropCause) → ManagerFits cfg m
    → TurnFits cfg m.index (drop_turn m cause)
unfolding mails_in
drop_fits cfg m cause h = record { index = refl; state = h; entry = tt; sends = tt }

told_fits : (cfg : ConfigParts) (m : Manager) (from : NodeId) (x : Message) → ManagerFits cfg m → HeardFits (Told from x)
    → TurnFits cfg m.index (manager_hears cfg m from x).turn
unfolding manager_hears
told_fits cfg m (Replica j) x h is =
    turn_of cfg m _ _ h (message_is cfg m (Replica j) x) (step_fits cfg m (Replica j) x h is)
    (replica_queue IsAllowed cfg m j x h.queue)
    (muxes_on cfg m.muxes _ (replica_leaves cfg m j x).muxes (stay_muxes cfg m h))
told_fits cfg m (Mux j) x h is =
    turn_of cfg m _ _ h (message_is cfg m (Mux j) x) (step_fits cfg m (Mux j) x h is)
    (mux_queue IsAllowed cfg m j x h.queue) (mux_muxes cfg m j x h is)
told_fits cfg m (Agent j) x h is =
    turn_of cfg m _ _ h (message_is cfg m (Agent j) x) (step_fits cfg m (Agent j) x h is)
    (agent_queue cfg m j x h.queue is.0 is.1)
    (muxes_on cfg m.muxes _ (ap (λ (n : Manager). n.muxes) (agent_leaves cfg m j x).state) (stay_muxes cfg m h))

heard_fits : (cfg : ConfigParts) (m : Manager) (x : Heard) → ManagerFits cfg m → HeardFits x
    → TurnFits cfg m.index (by_heard (refuses m) (manager_hears cfg m) (manager_takes m) x).turn
heard_fits cfg m (Refused cause) h is = drop_fits cfg m cause h
heard_fits cfg m (Told from x) h is = told_fits cfg m from x h is
heard_fits cfg m (Brought sender packet) h is = drop_fits cfg m WrongRole h

-- what comes fits
abbrev pub InputFits : ConfigParts → Input → Type 0
InputFits cfg (Arrived from bytes) = HeardFits (heard cfg from bytes)
InputFits cfg (Ticked now) = Unit {0}

half_fits : (cfg : ConfigParts) (m : Manager) (x : Input) → ManagerFits cfg m → InputFits cfg x
    → TurnFits cfg m.index (manager_half cfg m x).turn
unfolding manager_half
half_fits cfg m (Arrived from bytes) h is = heard_fits cfg m (heard cfg from bytes) h is
half_fits cfg m (Ticked now) h is =
    turn_of cfg m _ _ h (tick_is cfg m now) (clock_fits cfg m now h) (tick_queue IsAllowed cfg m now h.queue)
    (muxes_on cfg m.muxes _ (tick_leaves cfg m now).muxes (stay_muxes cfg m h))

first_none : (e : Option Entry) → first_of e None ≡ e
first_none None = refl
first_none (Some e) = refl

proposed_fits : (cfg : ConfigParts) (me : ℕ) (t : Turn Manager) → length cfg.muxes ≤ 16 → TurnFits cfg me t
    → TurnFits cfg me (also t (propose cfg))
proposed_fits cfg me t few h =
    let n : Manager = t.state in
    let p : Turn Manager = propose cfg n in
    let left : LeavesAllButOffer n p = proposal_leaves cfg n in
    let k : TurnFits cfg n.index p = turn_of cfg n p _ h.state (proposal_is cfg n) (proposal_fits cfg n h.state few)
    (propose_queue IsAllowed cfg n h.state.queue) (muxes_on cfg n.muxes p.state.muxes left.muxes (stay_muxes cfg n h.state)) in
    record {
      index = k.index ∙ h.index;
      state = k.state;
      entry = rw (left.entry, first_none t.entry) h.entry;
      sends = rw (mails_append me t.sends p.sends) (each_append MailFits (mails_in me t.sends) (mails_in me p.sends) h.sends
          (subst (λ (j : ℕ). Each MailFits (mails_in j p.sends)) h.index k.sends));
    }

whole_fits : (cfg : ConfigParts) (me : ℕ) (t : Turn Manager) (b : Bool) → length cfg.muxes ≤ 16 → TurnFits cfg me t
    → TurnFits cfg me (if b then also t (propose cfg) else t)
whole_fits cfg me t true few h = proposed_fits cfg me t few h
whole_fits cfg me t false few h = h

pub turn_fits : (cfg : ConfigParts) (m : Manager) (x : Input) → length cfg.muxes ≤ 16 → ManagerFits cfg m → InputFits cfg x
    → TurnFits cfg m.index (manager_step cfg m x)
unfolding manager_step whole
turn_fits cfg m x few h is =
    whole_fits cfg m.index (manager_half cfg m x).turn (manager_half cfg m x).proposes few (half_fits cfg m x h is)

-- ---- an opening

new_fit : (i : ℕ) (ss : List Socket) → PeersFit i (new_peers i ss)
new_fit i [] = tt
new_fit i (s ∷ ss) = (refl, omega arith, new_fit (i + 1) ss)

new_count : (i : ℕ) (ss : List Socket) → length (new_peers i ss) ≡ length ss
new_count i [] = refl
new_count i (s ∷ ss) = ap suc (new_count (i + 1) ss)

pub opened_fits : (cfg : ConfigParts) (i : ℕ) (es : List Entry) → AcceptorFits (state_of es)
    → ManagerFits cfg (opened_manager cfg i es)
unfolding opened_manager
opened_fits cfg i es h = record {
  acceptor = h;
  memory = new_memory_fits;
  queue = tt;
  muxes = new_fit 0 cfg.muxes;
  count = new_count 0 cfg.muxes;
}
