-- Events, and the worlds that they lead to. A settle is its deliveries, read off the world as it goes.
use Rattle.std.specs.Prelude.{◌≡◌, ℕ, zero, suc, Bool, false, List, [], ◌∷◌, ◌++◌, Option, Some, None, fold}
use Rattle.wire_core.specs.Members.{Each}
use Rattle.wire_core.specs.declared.address.Socket.{Socket}
use Rattle.wire_core.specs.declared.node.NodeId.{NodeId}
use Rattle.vip_config.specs.declared.parts.ConfigParts.{ConfigParts}
use Rattle.vip_config.specs.Queries.{who_of}
use Rattle.schedule_text.specs.Fields.{is_node}
use Rattle.schedule_text.specs.declared.event.Event.{Event}
use Rattle.schedule_text.specs.declared.event.Event.TheVariants as event
use Rattle.schedule_text.specs.declared.event.Single.{Single}
use Rattle.schedule_text.specs.declared.event.Single.TheVariants.{Deliver, Inject, Tick, Restart}
use Rattle.node_spec.specs.Turns.{Arrived, Ticked}
use Rattle.world_spec.specs.World.{World, first_world, least_waiting}
use Rattle.world_spec.specs.Steps.{Outcome, input, deliver, crash, restart, cut_input, cut_deliver, cut_restart}

-- An event that isn't a settle: an event at one node, a crash, or a crash within an event.
pub data Basic : Type 0 where
  Does : (e : Single) → Basic
  Crashes : (node : NodeId) → Basic
  Cuts : (node : NodeId) → (e : Single) → (keep : Bool) → Basic

-- ---- what a schedule may name

-- What comes from outside comes from no node's socket.
abbrev pub IsNamedAt : ConfigParts → Single → Type 0
IsNamedAt cfg (Inject x from bytes) = is_node (who_of cfg from) ≡ false
IsNamedAt cfg (Deliver k) = Unit {0}
IsNamedAt cfg (Tick x now) = Unit {0}
IsNamedAt cfg (Restart x) = Unit {0}

abbrev pub IsNamed : ConfigParts → Basic → Type 0
IsNamed cfg (Does e) = IsNamedAt cfg e
IsNamed cfg (Crashes x) = Unit {0}
IsNamed cfg (Cuts x e keep) = IsNamedAt cfg e

-- basic events that a schedule may name
abbrev pub AreNamed : ConfigParts → List Basic → Type 0
AreNamed cfg bs = Each (IsNamed cfg) bs

-- ---- what they do

-- an event at one node
abbrev pub single : ConfigParts → World → Single → Outcome
single cfg w (Deliver k) = deliver cfg w k
single cfg w (Inject x from bytes) = input cfg w x (Arrived from bytes)
single cfg w (Tick x now) = input cfg w x (Ticked now)
single cfg w (Restart x) = restart cfg w x

-- the same event, in which node x goes down
abbrev pub during : ConfigParts → World → NodeId → Single → Bool → Outcome
during cfg w x (Deliver k) keep = cut_deliver cfg w x k keep
during cfg w x (Inject y from bytes) keep = cut_input cfg w w x y (Arrived from bytes) keep
during cfg w x (Tick y now) keep = cut_input cfg w w x y (Ticked now) keep
during cfg w x (Restart y) keep = cut_restart w x y keep

-- What a basic event does, and its lines.
unfoldable pub happens : ConfigParts → World → Basic → Outcome
happens cfg w (Does e) = single cfg w e
happens cfg w (Crashes x) = crash w x
happens cfg w (Cuts x e keep) = during cfg w x e keep

-- the world after it
abbrev pub after : ConfigParts → World → Basic → World
after cfg w b = (happens cfg w b).0

-- The world after some basic events.
unfoldable pub world : ConfigParts → List Basic → World
world cfg bs = fold (after cfg) (first_world cfg) bs

-- ---- the events of a schedule

-- a delivery, and then what follows from the world that it leaves
abbrev pub settled_by : ConfigParts → World → (World → List Basic) → Option ℕ → List Basic
settled_by cfg w more None = []
settled_by cfg w more (Some k) = Does (Deliver k) ∷ more (after cfg w (Does (Deliver k)))

-- At most so many deliveries, each of the least datagram that waits.
unfoldable pub settled : ConfigParts → ℕ → World → List Basic
settled cfg zero w = []
settled cfg (suc n) w = settled_by cfg w (settled cfg n) (least_waiting w)

-- the basic events of an event
abbrev pub basics : ConfigParts → World → Event → List Basic
basics cfg w (event.Single e) = Does e ∷ []
basics cfg w (event.Settle n) = settled cfg n w
basics cfg w (event.Crash x) = Crashes x ∷ []
basics cfg w (event.During x e keep) = Cuts x e keep ∷ []

-- the world after an event of a schedule
abbrev pub after_event : ConfigParts → World → Event → World
after_event cfg w e = fold (after cfg) w (basics cfg w e)

-- the basic events of some events, from a world on
unfoldable pub basics_from : ConfigParts → World → List Event → List Basic
basics_from cfg w [] = []
basics_from cfg w (e ∷ es) = basics cfg w e ++ basics_from cfg (after_event cfg w e) es

-- The basic events of a schedule. Each moment of a run is the world of a front of these.
abbrev pub expand : ConfigParts → List Event → List Basic
expand cfg es = basics_from cfg (first_world cfg) es
