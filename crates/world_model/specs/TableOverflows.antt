-- By the tables: when a node's journal has no room for what an event makes it write.
use Rattle.std.specs.Prelude.{◌≡◌, ℕ, zero, suc, Bool, if◌then◌else◌, List, [], ◌∷◌, Option, Some, None}
use Rattle.wire_core.specs.declared.node.NodeId.{NodeId}
use Rattle.vip_config.specs.declared.parts.ConfigParts.{ConfigParts}
use Rattle.schedule_text.specs.declared.event.Event.{Event}
use Rattle.schedule_text.specs.declared.event.Event.TheVariants as event
use Rattle.schedule_text.specs.declared.event.Single.{Single}
use Rattle.schedule_text.specs.declared.event.Single.TheVariants.{Deliver, Inject, Tick, Restart}
use Rattle.node_spec.specs.Sends.{Place, ToNode, ToMachine, ToRouter}
use Rattle.node_spec.specs.Turns.{Input, Arrived, Ticked}
use Rattle.world_spec.specs.Nodes.{Lists, boot_entry, node_turn}
use Rattle.world_spec.specs.Steps.{arriving, deliver}
use Rattle.world_spec.specs.Transcript.{applied}
use Rattle.world_spec.specs.World.{Sent, World, at, disk, first_world, is_there, least_waiting, same_node, sent_at}
use Rattle.world_nodes.specs.Overflows.{Overflow, kept_overflow, overflow}
use Rattle.world_nodes.specs.Sites.{Deciding, Opening}
use Rattle.world_model.specs.Overflows as model
use Rattle.world_model.specs.Overflows.{first_of}
use Rattle.world_model.specs.Shown.{FollowsTables, StandsFor}
use Rattle.world_model.specs.World.{WorldState}

-- ---- an event at one node

-- the entry of a turn, of a node that may be down
abbrev pub turn_overflow : ConfigParts → World → NodeId → Input → Option Lists → Option Overflow
turn_overflow cfg w x i None = None
turn_overflow cfg w x i (Some l) = overflow (disk w x) (node_turn cfg l i).entry

abbrev pub input_overflow : ConfigParts → World → NodeId → Input → Option Overflow
input_overflow cfg w x i = turn_overflow cfg w x i (at w x)

abbrev pub delivered_overflow_to : ConfigParts → World → Sent → Place → Option Overflow
delivered_overflow_to cfg w s (ToNode x) = input_overflow cfg w x (arriving cfg s)
delivered_overflow_to cfg w s (ToMachine machine) = None
delivered_overflow_to cfg w s ToRouter = None

abbrev pub delivered_overflow : ConfigParts → World → Option Sent → Option Overflow
delivered_overflow cfg w None = None
delivered_overflow cfg w (Some s) = delivered_overflow_to cfg w s s.to

-- the datagram with a number arrives
unfoldable pub deliver_overflow : ConfigParts → World → ℕ → Option Overflow
deliver_overflow cfg w k = delivered_overflow cfg w (sent_at w k)

-- the boot of an opening, of a node that may be up
abbrev pub boot_overflow : World → NodeId → Option Lists → Option Overflow
boot_overflow w x (Some l) = None
boot_overflow w x None = overflow (disk w x) (Some (boot_entry x (disk w x)))

abbrev pub restart_overflow : World → NodeId → Option Overflow
restart_overflow w x = if is_there w x then boot_overflow w x (at w x) else None

abbrev pub single_overflow : ConfigParts → World → Single → Option Overflow
single_overflow cfg w (Deliver k) = deliver_overflow cfg w k
single_overflow cfg w (Inject x from bytes) = input_overflow cfg w x (Arrived from bytes)
single_overflow cfg w (Tick x now) = input_overflow cfg w x (Ticked now)
single_overflow cfg w (Restart x) = restart_overflow w x

-- ---- a crash within

abbrev pub cut_input_overflow : ConfigParts → World → NodeId → NodeId → Input → Bool → Option Overflow
cut_input_overflow cfg w x y i keep = if same_node x y then kept_overflow keep (input_overflow cfg w x i) else None

abbrev pub cut_delivered_overflow_to : ConfigParts → World → NodeId → Bool → Sent → Place → Option Overflow
cut_delivered_overflow_to cfg w x keep s (ToNode y) = cut_input_overflow cfg w x y (arriving cfg s) keep
cut_delivered_overflow_to cfg w x keep s (ToMachine machine) = None
cut_delivered_overflow_to cfg w x keep s ToRouter = None

abbrev pub cut_delivered_overflow : ConfigParts → World → NodeId → Bool → Option Sent → Option Overflow
cut_delivered_overflow cfg w x keep None = None
cut_delivered_overflow cfg w x keep (Some s) = cut_delivered_overflow_to cfg w x keep s s.to

abbrev pub cut_restart_overflow : World → NodeId → NodeId → Bool → Option Overflow
cut_restart_overflow w x y keep = if same_node x y then kept_overflow keep (restart_overflow w x) else None

abbrev pub during_overflow : ConfigParts → World → NodeId → Single → Bool → Option Overflow
during_overflow cfg w x (Deliver k) keep = cut_delivered_overflow cfg w x keep (sent_at w k)
during_overflow cfg w x (Inject y from bytes) keep = cut_input_overflow cfg w x y (Arrived from bytes) keep
during_overflow cfg w x (Tick y now) keep = cut_input_overflow cfg w x y (Ticked now) keep
during_overflow cfg w x (Restart y) keep = cut_restart_overflow w x y keep

-- ---- one after the other

abbrev pub settle_overflow_by : ConfigParts → World → (World → Option Overflow) → Option ℕ → Option Overflow
settle_overflow_by cfg w more None = None
settle_overflow_by cfg w more (Some k) = first_of (deliver_overflow cfg w k) (more (deliver cfg w k).0)

unfoldable pub settle_overflow : ConfigParts → ℕ → World → Option Overflow
settle_overflow cfg zero w = None
settle_overflow cfg (suc n) w = settle_overflow_by cfg w (settle_overflow cfg n) (least_waiting w)

-- What an event of a schedule makes a node write, in its first step that finds no room.
unfoldable pub event_overflow : ConfigParts → World → Event → Option Overflow
event_overflow cfg w (event.Single e) = single_overflow cfg w e
event_overflow cfg w (event.Settle n) = settle_overflow cfg n w
event_overflow cfg w (event.Crash x) = None
event_overflow cfg w (event.During x e keep) = during_overflow cfg w x e keep

unfoldable pub overflow_from : ConfigParts → World → List Event → Option Overflow
overflow_from cfg w [] = None
overflow_from cfg w (e ∷ es) = first_of (event_overflow cfg w e) (overflow_from cfg (applied cfg w e).0 es)

-- The first step of a run whose entry finds no room in its node's journal.
abbrev pub run_overflow : ConfigParts → List Event → Option Overflow
run_overflow cfg es = overflow_from cfg (first_world cfg) es

-- ---- a world of real nodes

-- Where what decides follows the tables, an event finds no room exactly where it finds none by them, in each world for
-- which this one stands.
abbrev pub OverflowsAsTables : {C : Type 0} → Deciding C → Opening C → WorldState C → Event → Type 0
OverflowsAsTables {C} step recover v e =
    (core : Lists → C) → FollowsTables v.cfg core step recover → (w : World) → StandsFor core v w
    → model.event_overflow step v e ≡ event_overflow v.cfg w e

-- This is the first overflow of a run, where what decides follows the tables.
abbrev pub IsRunOverflow : {C : Type 0} → Deciding C → Opening C → ConfigParts → List Event → Option Overflow → Type 0
IsRunOverflow {C} step recover cfg es o =
    (core : Lists → C) → FollowsTables cfg core step recover → o ≡ run_overflow cfg es
