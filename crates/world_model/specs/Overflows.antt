-- When a node's journal has no room for what an event makes it write.
use Rattle.std.specs.Prelude.{ℕ, zero, suc, Bool, if◌then◌else◌, List, [], ◌∷◌, Option, Some, None, is_some}
use Rattle.wire_core.specs.declared.node.NodeId.{NodeId}
use Rattle.vip_config.specs.Queries.{socket_of}
use Rattle.schedule_text.specs.declared.event.Event.{Event}
use Rattle.schedule_text.specs.declared.event.Event.TheVariants as event
use Rattle.schedule_text.specs.declared.event.Single.{Single}
use Rattle.schedule_text.specs.declared.event.Single.TheVariants.{Deliver, Inject, Tick, Restart}
use Rattle.node_spec.specs.Turns.{Input, Arrived, Ticked}
use Rattle.world_spec.specs.World.{same_node}
use Rattle.world_mail.specs.Mails.{least_waiting, posted_at}
use Rattle.world_mail.specs.declared.mail.Posted.{Posted}
use Rattle.world_nodes.specs.Overflows.{Overflow, cut_node_overflow, cut_restart_node_overflow, restart_node_overflow, step_node_overflow}
use Rattle.world_nodes.specs.Sites.{Deciding, Opening}
use Rattle.world_model.specs.World.{WorldState, applied, arriving, deliver, settle}

-- ---- an event at one node

-- an input to a node
abbrev pub input_overflow : {C : Type 0} → Deciding C → WorldState C → NodeId → Input → Option Overflow
input_overflow step w x i = step_node_overflow step w.nodes x i

abbrev pub deliver_overflow_to : {C : Type 0} → Deciding C → WorldState C → Posted → Option NodeId → Option Overflow
deliver_overflow_to step w p None = None
deliver_overflow_to step w p (Some x) = input_overflow step w x (arriving w.cfg p)

abbrev pub deliver_overflow_at : {C : Type 0} → Deciding C → WorldState C → Option Posted → Option Overflow
deliver_overflow_at step w None = None
deliver_overflow_at step w (Some p) = deliver_overflow_to step w p p.to

-- the datagram with a number arrives
unfoldable pub deliver_overflow : {C : Type 0} → Deciding C → WorldState C → ℕ → Option Overflow
deliver_overflow step w k = deliver_overflow_at step w (posted_at w.mail k)

-- a configured node opens its disk
abbrev pub restart_overflow : {C : Type 0} → WorldState C → NodeId → Option Overflow
restart_overflow w x = if is_some (socket_of w.cfg x) then restart_node_overflow w.nodes x else None

abbrev pub single_overflow : {C : Type 0} → Deciding C → WorldState C → Single → Option Overflow
single_overflow step w (Deliver k) = deliver_overflow step w k
single_overflow step w (Inject x from bytes) = input_overflow step w x (Arrived from bytes)
single_overflow step w (Tick x now) = input_overflow step w x (Ticked now)
single_overflow step w (Restart x) = restart_overflow w x

-- ---- a crash within

-- an input to node y in which node x goes down
abbrev pub cut_input_overflow : {C : Type 0} → Deciding C → WorldState C → NodeId → NodeId → Input → Bool
    → Option Overflow
cut_input_overflow step w x y i keep = if same_node x y then cut_node_overflow step w.nodes x i keep else None

abbrev pub cut_deliver_overflow_to : {C : Type 0} → Deciding C → WorldState C → NodeId → Bool → Posted → Option NodeId
    → Option Overflow
cut_deliver_overflow_to step w x keep p None = None
cut_deliver_overflow_to step w x keep p (Some y) = cut_input_overflow step w x y (arriving w.cfg p) keep

abbrev pub cut_deliver_overflow_at : {C : Type 0} → Deciding C → WorldState C → NodeId → Bool → Option Posted
    → Option Overflow
cut_deliver_overflow_at step w x keep None = None
cut_deliver_overflow_at step w x keep (Some p) = cut_deliver_overflow_to step w x keep p p.to

abbrev pub cut_opening_overflow : {C : Type 0} → WorldState C → NodeId → Bool → Option Overflow
cut_opening_overflow w x keep = if is_some (socket_of w.cfg x) then cut_restart_node_overflow w.nodes x keep else None

abbrev pub cut_restart_overflow : {C : Type 0} → WorldState C → NodeId → NodeId → Bool → Option Overflow
cut_restart_overflow w x y keep = if same_node x y then cut_opening_overflow w x keep else None

abbrev pub during_overflow : {C : Type 0} → Deciding C → WorldState C → NodeId → Single → Bool → Option Overflow
during_overflow step w x (Deliver k) keep = cut_deliver_overflow_at step w x keep (posted_at w.mail k)
during_overflow step w x (Inject y from bytes) keep = cut_input_overflow step w x y (Arrived from bytes) keep
during_overflow step w x (Tick y now) keep = cut_input_overflow step w x y (Ticked now) keep
during_overflow step w x (Restart y) keep = cut_restart_overflow w x y keep

-- ---- one after the other

-- the first one
abbrev pub first_of : Option Overflow → Option Overflow → Option Overflow
first_of (Some o) more = Some o
first_of None more = more

abbrev pub settle_overflow_by : {C : Type 0} → Deciding C → WorldState C → (WorldState C → Option Overflow) → Option ℕ
    → Option Overflow
settle_overflow_by step w more None = None
settle_overflow_by step w more (Some k) = first_of (deliver_overflow step w k) (more (deliver step w k).0)

-- the first of at most so many deliveries
unfoldable pub settle_overflow : {C : Type 0} → Deciding C → ℕ → WorldState C → Option Overflow
settle_overflow step zero w = None
settle_overflow step (suc n) w = settle_overflow_by step w (settle_overflow step n) (least_waiting w.mail)

-- What an event of a schedule makes a node write, in its first step that finds no room.
unfoldable pub event_overflow : {C : Type 0} → Deciding C → WorldState C → Event → Option Overflow
event_overflow step w (event.Single e) = single_overflow step w e
event_overflow step w (event.Settle n) = settle_overflow step n w
event_overflow step w (event.Crash x) = None
event_overflow step w (event.During x e keep) = during_overflow step w x e keep

-- The first of some events that finds no room, each after those before it.
unfoldable pub run_overflow : {C : Type 0} → Deciding C → Opening C → WorldState C → List Event → Option Overflow
run_overflow step recover w [] = None
run_overflow step recover w (e ∷ es) =
    first_of (event_overflow step w e) (run_overflow step recover (applied step recover w e).0 es)
