-- Which list is a view of the world by the tables that a world of real nodes stands for.
use Rattle.std.specs.Prelude.{◌≡◌, List, [], Option, Some, None}
use Rattle.std.specs.List.{flat_map}
use Rattle.agent_spec.specs.declared.connection.Connection.{Connection}
use Rattle.lease_spec.specs.declared.row.Row.{Row}
use Rattle.node_roles.specs.declared.role.Role.{Role}
use Rattle.node_schedule.specs.Roles.{role_of}
use Rattle.world_model.specs.Shown.{StandsFor}
use Rattle.world_model.specs.World.{WorldState}
use Rattle.world_spec.specs.Nodes.{Lists, OfManager, OfMux, OfAgent}
use Rattle.world_spec.specs.Views.{book, entries, held}
use Rattle.world_spec.specs.World.{World}
use Rattle.world_spec.specs.declared.views.Held.{Held}
use Rattle.world_spec.specs.declared.views.MuxRow.{MuxRow}

-- the connections of an agent, with all that it keeps of each
abbrev pub live_of : Option Lists → List Connection
live_of None = []
live_of (Some (OfManager m)) = []
live_of (Some (OfMux m)) = []
live_of (Some (OfAgent a)) = a.traffic.conns

-- The connections of the agents that are up, each agent's in the order of opening.
unfoldable pub live : World → List Connection
live w = flat_map (λ s. live_of s.up) w.agents

-- The list is what this view shows of each world by the tables that the world stands for.
abbrev pub IsViewOf : {A : Type 0} → (World → List A) → WorldState Role → List A → Type 0
IsViewOf view v list = (w : World) → StandsFor (role_of v.cfg) v w → list ≡ view w

-- These are the ranges that agents hold.
abbrev pub AreHeldOf : WorldState Role → List Held → Type 0
AreHeldOf v list = IsViewOf held v list

-- These are the connections of agents.
abbrev pub AreLiveOf : WorldState Role → List Connection → Type 0
AreLiveOf v list = IsViewOf live v list

-- These are the rows of muxes.
abbrev pub AreEntriesOf : WorldState Role → List MuxRow → Type 0
AreEntriesOf v list = IsViewOf entries v list

-- These are the rows of the book.
abbrev pub AreBookOf : WorldState Role → List Row → Type 0
AreBookOf v list = IsViewOf (λ w. (book v.cfg w).rows) v list
