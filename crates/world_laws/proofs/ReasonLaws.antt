-- Each command that waits, is proposed or stands in the log has its reason.
use Rattle.std.proofs.Common.{◌≡◌, refl, sym, ap, ◌∙◌, subst, ℕ, zero, suc, ◌-◌, ◌<◌, inl, inr, List, [], ◌∷◌, ◌++◌}
use Rattle.std.proofs.Common.{length, take, Option, Some, None, fold, arith}
use Rattle.std.specs.Prelude.{slice_get, map, ◌&&◌, if◌then◌else◌}
use Rattle.std.specs.List.{flat_map, list_all}
use Rattle.wire_core.specs.Commands.{LogCommand, Reserve, Granted, Release, Freed, Up}
use Rattle.wire_core.specs.Members.{In, Each}
use Rattle.wire_core.specs.declared.cause.DropCause.{DropCause}
use Rattle.wire_core.specs.declared.entry.Entry.{Entry}
use Rattle.wire_core.specs.declared.node.NodeId.{NodeId}
use Rattle.wire_core.specs.declared.node.NodeId.TheVariants.{Replica, Mux, Agent}
use Rattle.vip_config.specs.declared.parts.ConfigParts.{ConfigParts}
use Rattle.control_msg.specs.Messages.{message_bytes}
use Rattle.control_msg.specs.declared.message.Message.{Message}
use Rattle.control_msg.specs.declared.message.Message.TheVariants as message
use Rattle.control_msg.proofs.WholeLaws.{message_is}
use Rattle.lease_spec.proofs.MemberLaws.{each_append, each_in, each_on, in_left}
use Rattle.lease_spec.specs.Table.{is_being, is_freeing}
use Rattle.lease_spec.specs.declared.row.Row.{Row}
use Rattle.paxos_laws.specs.Facts.{Proposed}
use Rattle.paxos_laws.proofs.Named as laws
use Rattle.paxos_spec.specs.Votes.{Value}
use Rattle.node_spec.specs.Datagrams.{Heard, Refused, Told, Brought, heard, by_heard}
use Rattle.node_spec.specs.Sends.{ToNode, Says}
use Rattle.node_spec.specs.Turns.{Input, Arrived, Ticked}
use Rattle.manager_spec.proofs.Choices.{by_if}
use Rattle.manager_spec.specs.Agreement.{proposed}
use Rattle.manager_spec.specs.Manager.{Manager, leases, opened_manager}
use Rattle.manager_spec.specs.ManagerTable.{from_agent, manager_half, manager_hears, manager_step, manager_takes}
use Rattle.manager_spec.specs.ManagerTable.{refuses}
use Rattle.manager_spec.specs.Known.{is_acked_ever, marks_at, running}
use Rattle.manager_spec.specs.Proposal.{Half, due, first_due, freed_due, grant_due, holders, is_granted, mux_boot}
use Rattle.world_spec.proofs.Principle.{always, reached_next}
use Rattle.world_spec.specs.Events.{AreNamed, Basic, IsNamed, after, world}
use Rattle.world_spec.specs.Facts.{Holds, Keeps, Reached}
use Rattle.world_spec.specs.Nodes.{Lists, OfManager, OfMux, OfAgent, booted, node_turn, opened}
use Rattle.world_spec.specs.Shapes.{Given, Grows, Said}
use Rattle.world_spec.specs.World.{World, Sent, first_world}
use Rattle.world_laws.specs.Hearing.{IsSound, SentFits, ListsFit}
use Rattle.world_laws.specs.Log.{Offered, log}
use Rattle.world_laws.specs.Reasons.{AnyEntry, AnySent, HasReason, HaveReasons, QueueHasReasons, Spoke}
use Rattle.world_laws.specs.Seen.{view}
use Rattle.world_laws.proofs.Books.{each_by_get}
use Rattle.world_laws.proofs.Heard.{first_holds, hearing_at}
use Rattle.world_laws.proofs.InWorld.{first_reached, in_order_at, values_travel, first_sent}
use Rattle.world_laws.proofs.Queues.{ask_waits, back_waits, mux_waits, replica_waits, tick_waits, up_waits, whole_waits}
use Rattle.world_laws.proofs.Told.{InputWasTold, Tells, WasTold, given_told}
use Rattle.world_spec.proofs.Firsts.{grows}

-- ---- a reason lasts

spoke_on : (w u : World) (ss : List Sent) → u.sent ≡ w.sent ++ ss → (agent : ℕ) (m : Message) → Spoke w agent m
    → Spoke u agent m
spoke_on w u ss more agent m h = record {
  to = h.to;
  message = h.message;
  sent = subst (In (record { from = Agent agent; to = ToNode h.to; said = Says h.message })) (sym more)
      (in_left w.sent ss _ h.sent);
  spelled = h.spelled;
}

reason_on : (w u : World) (ss : List Sent) → u.sent ≡ w.sent ++ ss → (c : LogCommand) → HasReason w c → HasReason u c
reason_on w u ss more (Reserve agent boot machine seq) h = spoke_on w u ss more agent _ h
reason_on w u ss more (Up agent boot) h = spoke_on w u ss more agent _ h
reason_on w u ss more (Release n) h = (h.0, h.1, spoke_on w u ss more h.0 _ h.2)
reason_on w u ss more (Granted n muxes) h = tt
reason_on w u ss more (Freed n) h = tt

pub reasons_on : (x : NodeId) (w u : World) → Grows x w u → (v : Value) → HaveReasons w v → HaveReasons u v
reasons_on x w u g v h =
    each_on (HasReason w) (HasReason u) (reason_on w u g.sent_more.0 g.sent_more.1) v h

-- ---- what a replica hears of an agent

-- it was spelled so by the agent
spoke : (cfg : ConfigParts) → IsSound cfg → (w : World) → Reached cfg w → (i j : ℕ) (m : Message)
    → Tells w (Replica i) (Agent j) m → Spoke w j m
spoke cfg sound w r i j m t = record {
  to = Replica i;
  message = t.message;
  sent = t.sent;
  spelled = (message_is (message_bytes t.message) m
      (each_in (SentFits w) w.sent _ (hearing_at cfg sound w r).said t.sent) t.read).0;
}

agent_queue : (cfg : ConfigParts) → IsSound cfg → (w : World) → Reached cfg w → (i j : ℕ) (r : Manager) (m : Message)
    → Tells w (Replica i) (Agent j) m → HaveReasons w r.queue
    → HaveReasons w (from_agent cfg r j m).turn.state.queue
agent_queue cfg sound w k i j r (message.Ask boot machine seq) t h =
    ask_waits (HasReason w) cfg r j boot machine seq h (spoke cfg sound w k i j _ t)
agent_queue cfg sound w k i j r (message.Return boot n) t h =
    back_waits (HasReason w) cfg r j boot n h (j, boot, spoke cfg sound w k i j _ t)
agent_queue cfg sound w k i j r (message.AgentUp boot) t h =
    up_waits (HasReason w) cfg r j boot h (spoke cfg sound w k i j _ t)
agent_queue cfg sound w k i j r _ t h = h

hears_queue : (cfg : ConfigParts) → IsSound cfg → (w : World) → Reached cfg w → (i : ℕ) (y : NodeId) (r : Manager)
    (m : Message) → Tells w (Replica i) y m → HaveReasons w r.queue
    → HaveReasons w (manager_hears cfg r y m).turn.state.queue
unfolding manager_hears
hears_queue cfg sound w k i (Replica j) r m t h = replica_waits (HasReason w) cfg r j m h
hears_queue cfg sound w k i (Mux j) r m t h = mux_waits (HasReason w) cfg r j m h
hears_queue cfg sound w k i (Agent j) r m t h = agent_queue cfg sound w k i j r m t h

-- the row of an input, and its whole turn
pub half_queue : (cfg : ConfigParts) → IsSound cfg → (w : World) → Reached cfg w → (i : ℕ) (r : Manager) (x : Input)
    → InputWasTold cfg w (Replica i) x → HaveReasons w r.queue
    → HaveReasons w (manager_half cfg r x).turn.state.queue
unfolding manager_half
half_queue cfg sound w k i r (Ticked now) t h = tick_waits (HasReason w) cfg r now h
half_queue cfg sound w k i r (Arrived from bytes) t h = by (heard cfg from bytes) t
  where
    by : (a : Heard) → WasTold w (Replica i) a
        → HaveReasons w (by_heard (refuses r) (manager_hears cfg r) (manager_takes r) a).turn.state.queue
    by (Refused cause) t = h
    by (Told y m) t = hears_queue cfg sound w k i y r m t h
    by (Brought sender packet) t = h

step_queue : (cfg : ConfigParts) → IsSound cfg → (w : World) → Reached cfg w → (i : ℕ) (r : Manager) (x : Input)
    → InputWasTold cfg w (Replica i) x → HaveReasons w r.queue → HaveReasons w (manager_step cfg r x).state.queue
unfolding manager_step
step_queue cfg sound w k i r x t h =
    whole_waits (HasReason w) cfg (manager_half cfg r x) (half_queue cfg sound w k i r x t h)

-- ---- queues, in every world

turn_queue : (cfg : ConfigParts) → IsSound cfg → (w u : World) → Reached cfg w → (x : NodeId) (l : Lists) (i : Input)
    → Grows x w u → Given cfg w x i → QueueHasReasons w x l → ListsFit cfg w x l
    → QueueHasReasons u x (node_turn cfg l i).state
turn_queue cfg sound w u r (Replica j) (OfManager m) i g given h fits =
    reasons_on (Replica j) w u g _ (step_queue cfg sound w r j m i (given_told cfg sound w r (Replica j) i given) h)
turn_queue cfg sound w u r (Mux j) (OfManager m) i g given h fits = absurd fits
turn_queue cfg sound w u r (Agent j) (OfManager m) i g given h fits = absurd fits
turn_queue cfg sound w u r x (OfMux m) i g given h fits = tt
turn_queue cfg sound w u r x (OfAgent a) i g given h fits = tt

queue_on : (x : NodeId) (w u : World) → Grows x w u → (y : NodeId) (l : Lists) → QueueHasReasons w y l
    → QueueHasReasons u y l
queue_on x w u g y (OfManager m) h = reasons_on x w u g m.queue h
queue_on x w u g y (OfMux m) h = tt
queue_on x w u g y (OfAgent a) h = tt

opened_queue : (cfg : ConfigParts) (u : World) (x : NodeId) (es : List Entry) → QueueHasReasons u x (opened cfg x es)
unfolding opened opened_manager
opened_queue cfg u (Replica i) es = tt
opened_queue cfg u (Mux i) es = tt
opened_queue cfg u (Agent i) es = tt

pub any_sent : (u : World) (ss : List Sent) → Each (AnySent u) ss
any_sent u [] = tt
any_sent u (s ∷ ss) = (tt, any_sent u ss)

pub any_entry : (u : World) (x : NodeId) (es : List Entry) → Each (AnyEntry u x) es
any_entry u x [] = tt
any_entry u x (e ∷ es) = (tt, any_entry u x es)

queues_keep : (cfg : ConfigParts) → IsSound cfg → Keeps cfg AnySent AnyEntry QueueHasReasons
queues_keep cfg sound = record {
  said_lasts = λ x w u z g s h. tt;
  kept_lasts = λ x w u z g y e h. tt;
  lists_last = λ x w u z g y ne l h. queue_on x w u g y l h;
  lists_rest = λ x w u z g same sent l h. queue_on x w u g x l h;
  opening = λ w u x z h g d n. (tt, opened_queue cfg u x _);
  turn = λ w u x l i z h g was given m. (
    any_sent u _,
    any_entry u x _,
    turn_queue cfg sound w u z.before x l i g given (h.lists x l was)
        ((hearing_at cfg sound w z.before).lists x l was),
  );
  cut = λ w u x l i z h g was given m. any_entry u x _;
  first = first_holds cfg AnySent AnyEntry QueueHasReasons (λ x. (tt, opened_queue cfg (first_world cfg) x _));
}

pub queues : (cfg : ConfigParts) → IsSound cfg → (bs : List Basic) → AreNamed cfg bs
    → Holds AnySent AnyEntry QueueHasReasons (world cfg bs)
queues cfg sound bs named = always cfg AnySent AnyEntry QueueHasReasons (queues_keep cfg sound) bs named

-- ---- what is proposed

each_take : (P : LogCommand → Type 0) (k : ℕ) (cs : List LogCommand) → Each P cs → Each P (take k cs)
each_take P zero cs h = tt
each_take P (suc k) [] h = tt
each_take P (suc k) (c ∷ cs) h = (h.0, each_take P k cs h.1)

each_flat : (P : LogCommand → Type 0) (f : Row → List LogCommand) → ((x : Row) → Each P (f x)) → (xs : List Row)
    → Each P (flat_map f xs)
each_flat P f h [] = tt
each_flat P f h (x ∷ xs) = each_append P (f x) (flat_map f xs) (h x) (each_flat P f h xs)

-- what is due by the table needs no reason here
grant_has : (w : World) (cfg : ConfigParts) (r : Manager) (row : Row) → HaveReasons w (grant_due cfg r row)
grant_has w cfg r row =
    by_if (HaveReasons w) (is_being row.phase && is_granted cfg r (marks_at r.acks row.n))
    {x = Granted row.n (map mux_boot (holders (running r) (marks_at r.acks row.n))) ∷ []} {y = []} (λ _. (tt, tt))
    (λ _. tt)

freed_has : (w : World) (r : Manager) (row : Row) → HaveReasons w (freed_due r row)
freed_has w r row =
    by_if (HaveReasons w)
    (is_freeing row.phase && list_all (is_acked_ever (marks_at r.acks row.n).unprogrammed) r.muxes)
    {x = Freed row.n ∷ []} {y = []} (λ _. (tt, tt)) (λ _. tt)

due_have : (w : World) (cfg : ConfigParts) (r : Manager) → HaveReasons w (due cfg r)
unfolding due
due_have w cfg r =
    each_append (HasReason w) (flat_map (grant_due cfg r) (leases cfg r).rows) _
    (each_flat (HasReason w) (grant_due cfg r) (grant_has w cfg r) (leases cfg r).rows)
    (each_flat (HasReason w) (freed_due r) (freed_has w r) (leases cfg r).rows)

offer_has : (w : World) (cfg : ConfigParts) (r : Manager) → HaveReasons w r.queue → HaveReasons w (proposed cfg r)
offer_has w cfg r h =
    each_append (HasReason w) (first_due cfg r) _ (each_take (HasReason w) 16 (due cfg r) (due_have w cfg r))
    (each_take (HasReason w) (16 - length (first_due cfg r)) r.queue h)

queues_at : (cfg : ConfigParts) → IsSound cfg → (w : World) → Reached cfg w → Holds AnySent AnyEntry QueueHasReasons w
queues_at cfg sound w r =
    subst (Holds AnySent AnyEntry QueueHasReasons) (sym r.is) (queues cfg sound r.events r.named)

offered_has : (cfg : ConfigParts) → IsSound cfg → (w : World) → Reached cfg w → (v : Value) → Offered cfg w v
    → HaveReasons w v
offered_has cfg sound w r v o =
    let waits : HaveReasons w o.lists.queue =
    (queues_at cfg sound w r).lists (Replica o.replica) (OfManager o.lists) o.was in
    let half = half_queue cfg sound w r o.replica o.lists o.input
    (given_told cfg sound w r (Replica o.replica) o.input o.given) waits in
    subst (HaveReasons w) (sym o.is) (offer_has w cfg (manager_half cfg o.lists o.input).turn.state half)

-- ---- values, in every world

abbrev AllProposed : World → Type 0
AllProposed w = (b s : ℕ) (v : Value) → Proposed (view w) b s v → HaveReasons w v

values_run : (cfg : ConfigParts) → IsSound cfg → (bs : List Basic) (w : World) → AreNamed cfg bs → Reached cfg w
    → AllProposed w → AllProposed (fold (after cfg) w bs)
values_run cfg sound [] w named r h = h
values_run cfg sound (b ∷ bs) w named r h =
    values_run cfg sound bs (after cfg w b) named.1 (reached_next cfg w b named.0 r) (λ c s v p.
    (let g = grows cfg w b named.0 in
    reasons_on g.0 w (after cfg w b) g.1 v (elim (values_travel cfg sound w b r named.0 c s v p) [
      | inl old ↦ h old.0 s v old.1
      | inr new ↦ offered_has cfg sound w r v new
    ])))

none_first : (cfg : ConfigParts) (b s : ℕ) (v : Value) → Proposed (view (first_world cfg)) b s v → ⊥
unfolding view
none_first cfg b s v p = (let at = p.at in let c = rw (first_sent cfg) at at in
    let lt = c.1 in omega arith)

values_have : (cfg : ConfigParts) → IsSound cfg → (bs : List Basic) → AreNamed cfg bs → AllProposed (world cfg bs)
unfolding world
values_have cfg sound bs named = values_run cfg sound bs (first_world cfg) named (first_reached cfg)
    (λ b s v p. absurd (none_first cfg b s v p))

-- each command of the log has its reason
pub log_has_reasons : (cfg : ConfigParts) → IsSound cfg → (bs : List Basic) → AreNamed cfg bs
    → Each (HaveReasons (world cfg bs)) (log (world cfg bs))
log_has_reasons cfg sound bs named =
    let w : World = world cfg bs in
    each_by_get (HaveReasons w) (log w) (λ k v e.
    (let p = (laws.each_was_proposed (view w)
    (in_order_at cfg sound w (record { events = bs; named = named; is = refl })).inv).log k v e in
    values_have cfg sound bs named p.0 k v p.1))
