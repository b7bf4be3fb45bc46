-- Events that are applied one by one lead to a world that stands for the one that they lead to by the tables.
use Rattle.std.proofs.Common.{◌≡◌, refl, sym, ap, ◌∙◌, List, [], ◌∷◌, ◌++◌, map, Option, Some, None}
use Rattle.std.specs.Prelude.{fold, is_some}
use Rattle.std.specs.List.{flat_map}
use Rattle.std.proofs.lemmas.List.{map-append}
use Rattle.agent_spec.specs.Connections.{conn_of}
use Rattle.schedule_text.specs.declared.event.Event.{Event}
use Rattle.vip_config.specs.Queries.{KnowsOwners, socket_of}
use Rattle.vip_config.specs.declared.parts.ConfigParts.{ConfigParts}
use Rattle.wire_core.specs.declared.node.NodeId.{NodeId}
use Rattle.wire_core.specs.declared.connection.Conn.{Conn}
use Rattle.world_laws.specs.Hearing.{IsSound}
use Rattle.world_model.specs.Shown.{FollowsTables, StandsFor, shown}
use Rattle.world_model.specs.World as model
use Rattle.world_model.specs.World.{Outcome, WorldState}
use Rattle.world_model.proofs.ShownFirsts.{first_shown}
use Rattle.world_model.proofs.ShownWorlds.{applied_shown}
use Rattle.world_model.proofs.There.{there_applied, there_first}
use Rattle.world_nodes.specs.Sites.{Deciding, Opening}
use Rattle.world_safety.specs.Nodes.{played}
use Rattle.world_spec.specs.Nodes.{Lists, OfManager, OfMux, OfAgent}
use Rattle.world_spec.specs.Transcript as transcript
use Rattle.world_spec.specs.Views.{conns, conns_of}
use Rattle.world_spec.specs.World.{Site, World, is_there, first_world}
use Rattle.world_views.specs.Views.{live, live_of}

-- the nodes of a world are those that it had
there_end : (cfg : ConfigParts) (es : List Event) (w : World) (x : NodeId)
    → is_there (transcript.end_from cfg w es) x ≡ is_there w x
unfolding transcript.end_from
there_end cfg [] w x = refl
there_end cfg (e ∷ es) w x = there_end cfg es (transcript.applied cfg w e).0 x ∙ there_applied cfg w e x

module _ {C : Type 0} (core : Lists → C) (step : Deciding C) (recover : Opening C) (cfg : ConfigParts)
    (follows : FollowsTables cfg core step recover) (owners : KnowsOwners cfg) where
  -- the events lead to what the tables lead to
  end_shown : (es : List Event) (w : World) → ((x : NodeId) → is_there w x ≡ is_some (socket_of cfg x))
      → fold (λ (v : WorldState C) (e : Event). (model.applied step recover v e).0) (shown cfg core w) es
      ≡ shown cfg core (transcript.end_from cfg w es)
  unfolding transcript.end_from
  end_shown [] w there = refl
  end_shown (e ∷ es) w there =
      ap (λ (r : Outcome C). fold (λ (v : WorldState C) (e : Event). (model.applied step recover v e).0) r.0 es)
      (applied_shown cfg core step recover follows owners w there e)
      ∙ end_shown es (transcript.applied cfg w e).0 (λ x. there_applied cfg w e x ∙ there x)

pub stands_played : {C : Type 0} (core : Lists → C) (step : Deciding C) (recover : Opening C) (cfg : ConfigParts)
    → FollowsTables cfg core step recover → IsSound cfg → (events : List Event)
    → StandsFor core (played step recover cfg events) (transcript.end_from cfg (first_world cfg) events)
stands_played {C} core step recover cfg follows sound events =
    let end : World = transcript.end_from cfg (first_world cfg) events in
    let is : played step recover cfg events ≡ shown cfg core end =
    ap (λ (v : WorldState C). fold (λ (u : WorldState C) (e : Event). (model.applied step recover u e).0) v events)
    (first_shown cfg core step recover follows sound.lengths)
    ∙ end_shown core step recover cfg follows sound.owners events (first_world cfg) (there_first cfg sound.lengths) in
    let same : (played step recover cfg events).cfg ≡ cfg = ap (λ (v : WorldState C). v.cfg) is in
    record {
      there = λ x. there_end cfg events (first_world cfg) x ∙ there_first cfg sound.lengths x
          ∙ ap (λ (c : ConfigParts). is_some (socket_of c x)) (sym same);
      shows = is ∙ ap (λ (c : ConfigParts). shown c core end) (sym same);
    }

-- ---- connections

one_plain : (o : Option Lists) → map conn_of (live_of o) ≡ conns_of o
one_plain None = refl
one_plain (Some (OfManager m)) = refl
one_plain (Some (OfMux m)) = refl
one_plain (Some (OfAgent a)) = refl

all_plain : (ss : List Site)
    → map conn_of (flat_map (λ (s : Site). live_of s.up) ss) ≡ flat_map (λ (s : Site). conns_of s.up) ss
all_plain [] = refl
all_plain (s ∷ ss) =
    map-append conn_of (live_of s.up) (flat_map (λ (t : Site). live_of t.up) ss)
    ∙ ap (λ (l : List Conn). l ++ map conn_of (flat_map (λ (t : Site). live_of t.up) ss)) (one_plain s.up)
    ∙ ap (λ (l : List Conn). conns_of s.up ++ l) (all_plain ss)

pub live_plain : (w : World) → map conn_of (live w) ≡ conns w
unfolding live conns
live_plain w = all_plain w.agents
