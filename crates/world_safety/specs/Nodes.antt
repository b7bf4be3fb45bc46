-- What is safe of a world of real nodes, by the lists that its cores have.
use Rattle.std.specs.Prelude.{◌≡◌, List, map, option_map, fold}
use Rattle.std.specs.List.{flat_map}
use Rattle.wire_core.specs.Members.{Each}
use Rattle.wire_core.specs.declared.connection.Conn.{Conn}
use Rattle.vip_config.specs.Rules.{Once}
use Rattle.vip_config.specs.declared.parts.ConfigParts.{ConfigParts}
use Rattle.schedule_text.specs.declared.event.Event.{Event}
use Rattle.world_spec.specs.Nodes.{Lists}
use Rattle.world_spec.specs.Views.{conns_of, held_of}
use Rattle.world_spec.specs.declared.views.Held.{Held}
use Rattle.world_laws.specs.Safety.{IsHeld, inner_end, outer_end, range_held}
use Rattle.world_model.specs.Firsts.{first_world}
use Rattle.world_nodes.specs.Sites.{Deciding, Opening}
use Rattle.world_model.specs.World.{WorldState, applied}

-- ---- what is seen of real nodes, where see tells the lists of a core

-- the ranges that the agents that are up hold
abbrev pub held_in : {C : Type 0} → (C → Lists) → WorldState C → List Held
held_in see v = flat_map (λ s. held_of (option_map see s.up)) v.nodes.agents

-- the connections of the agents that are up
abbrev pub conns_in : {C : Type 0} → (C → Lists) → WorldState C → List Conn
conns_in see v = flat_map (λ s. conns_of (option_map see s.up)) v.nodes.agents

-- No two real agents hold one range, no two of their connections share an end, and each goes through a range that its
-- machine holds.
pub record NodesAreSafe {C : Type 0} (see : C → Lists) (v : WorldState C) : Type 0 where
  pub ranges : Once (map range_held (held_in see v))
  pub outer : Once (map outer_end (conns_in see v))
  pub inner : Once (map inner_end (conns_in see v))
  pub through : Each (IsHeld (held_in see v)) (conns_in see v)

-- ---- worlds of real nodes

-- the lists of a core are those that it has
abbrev pub Sees : {C : Type 0} → (Lists → C) → (C → Lists) → Type 0
Sees core see = (l : Lists) → see (core l) ≡ l

-- The world of real nodes after some events, each of them applied to what the one before left.
abbrev pub played : {C : Type 0} → Deciding C → Opening C → ConfigParts → List Event → WorldState C
played step recover cfg events = fold (λ v e. (applied step recover v e).0) (first_world recover cfg) events
