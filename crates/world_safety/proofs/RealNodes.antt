-- A world of real nodes has the ranges and connections of the world by the tables for which it stands.
use Rattle.std.proofs.Common.{◌≡◌, refl, sym, ap, subst, ◌∙◌, List, [], ◌∷◌, ◌++◌, map, Option, Some, None}
use Rattle.std.specs.Prelude.{fold, is_some, option_map}
use Rattle.std.specs.List.{flat_map}
use Rattle.wire_core.specs.Members.{Each}
use Rattle.wire_core.specs.declared.connection.Conn.{Conn}
use Rattle.wire_core.specs.declared.node.NodeId.{NodeId}
use Rattle.vip_config.specs.Queries.{KnowsOwners, socket_of}
use Rattle.vip_config.specs.Rules.{Once}
use Rattle.vip_config.specs.declared.parts.ConfigParts.{ConfigParts}
use Rattle.schedule_text.specs.Laws.{IsHonest}
use Rattle.schedule_text.specs.declared.event.Event.{Event}
use Rattle.world_spec.specs.Nodes.{Lists}
use Rattle.world_spec.specs.Transcript as transcript
use Rattle.world_spec.specs.Views.{conns, conns_of, held, held_of}
use Rattle.world_spec.specs.World.{Site, World, is_there, first_world as first_of_tables}
use Rattle.world_spec.specs.declared.views.Held.{Held}
use Rattle.world_laws.specs.Safety.{IsHeld, inner_end, outer_end, range_held}
use Rattle.world_laws.specs.Hearing.{IsSound}
use Rattle.world_model.specs.Shown.{FollowsTables, StandsFor, shown, shown_site}
use Rattle.world_nodes.specs.Sites.{Deciding, Opening, SiteState}
use Rattle.world_model.specs.World as model
use Rattle.world_model.specs.World.{Outcome, WorldState}
use Rattle.world_model.proofs.ShownFirsts.{first_shown}
use Rattle.world_model.proofs.ShownWorlds.{applied_shown}
use Rattle.world_model.proofs.There.{there_applied, there_first}
use Rattle.world_safety.specs.Nodes.{NodesAreSafe, Sees, conns_in, held_in, played}
use Rattle.world_safety.specs.Safety.{IsSafe}
use Rattle.world_safety.proofs.Moments.{end_is_safe}

module _ {C : Type 0} (core : Lists → C) (see : C → Lists) (sees : Sees core see) where
  -- the lists of a node that shows a site are the site's
  seen_back : (o : Option Lists) → option_map see (option_map core o) ≡ o
  seen_back None = refl
  seen_back (Some l) = ap (λ (k : Lists). Some k) (sees l)

  -- what is told of each node by its lists
  flat_shown : {Y : Type 0} (f : Option Lists → List Y) (ss : List Site)
      → flat_map (λ (s : SiteState C). f (option_map see s.up)) (map (shown_site core) ss)
      ≡ flat_map (λ (s : Site). f s.up) ss
  flat_shown {Y} f [] = refl
  flat_shown {Y} f (s ∷ ss) =
      ap (λ (o : Option Lists). f o
      ++ flat_map (λ (s : SiteState C). f (option_map see s.up)) (map (shown_site core) ss)) (seen_back s.up)
      ∙ ap (λ (l : List Y). f s.up ++ l) (flat_shown f ss)

  same_held : (cfg : ConfigParts) (w : World) → held_in see (shown cfg core w) ≡ held w
  unfolding held
  same_held cfg w = flat_shown held_of w.agents

  same_conns : (cfg : ConfigParts) (w : World) → conns_in see (shown cfg core w) ≡ conns w
  unfolding conns
  same_conns cfg w = flat_shown conns_of w.agents

  shown_is_safe : (cfg other : ConfigParts) (w : World) → IsSafe cfg w → NodesAreSafe see (shown other core w)
  shown_is_safe cfg other w safe =
      let hs : held w ≡ held_in see (shown other core w) = sym (same_held other w) in
      let cs : conns w ≡ conns_in see (shown other core w) = sym (same_conns other w) in
      record {
        ranges = subst (λ (l : List Held). Once (map range_held l)) hs safe.ranges;
        outer = subst (λ (l : List Conn). Once (map outer_end l)) cs safe.outer;
        inner = subst (λ (l : List Conn). Once (map inner_end l)) cs safe.inner;
        through = subst (λ (l : List Conn). Each (IsHeld (held_in see (shown other core w))) l) cs
            (subst (λ (l : List Held). Each (IsHeld l) (conns w)) hs safe.through);
      }

  pub stands_safe : (cfg : ConfigParts) (v : WorldState C) (w : World) → StandsFor core v w → IsSafe cfg w
      → NodesAreSafe see v
  stands_safe cfg v w stands safe =
      subst (NodesAreSafe see) (sym stands.shows) (shown_is_safe cfg v.cfg w safe)

  module _ (cfg : ConfigParts) (step : Deciding C) (recover : Opening C) (follows : FollowsTables cfg core step recover)
      (owners : KnowsOwners cfg) where
    -- the events lead to what the tables lead to
    end_shown : (es : List Event) (w : World) → ((x : NodeId) → is_there w x ≡ is_some (socket_of cfg x))
        → fold (λ (v : WorldState C) (e : Event). (model.applied step recover v e).0) (shown cfg core w) es
        ≡ shown cfg core (transcript.end_from cfg w es)
    unfolding transcript.end_from
    end_shown [] w there = refl
    end_shown (e ∷ es) w there =
        ap (λ (r : Outcome C). fold (λ (v : WorldState C) (e : Event). (model.applied step recover v e).0) r.0 es)
        (applied_shown cfg core step recover follows owners w there e)
        ∙ end_shown es (transcript.applied cfg w e).0 (λ x. there_applied cfg w e x ∙ there x)

  pub played_safe : (cfg : ConfigParts) → IsSound cfg → (step : Deciding C) (recover : Opening C)
      → FollowsTables cfg core step recover → (events : List Event) → Each (IsHonest cfg) events
      → NodesAreSafe see (played step recover cfg events)
  played_safe cfg sound step recover follows events honest =
      let is : played step recover cfg events
      ≡ shown cfg core (transcript.end_from cfg (first_of_tables cfg) events) =
      ap (λ (v : WorldState C). fold (λ (u : WorldState C) (e : Event). (model.applied step recover u e).0) v events)
      (first_shown cfg core step recover follows sound.lengths)
      ∙ end_shown cfg step recover follows sound.owners events (first_of_tables cfg) (there_first cfg sound.lengths) in
      subst (NodesAreSafe see) (sym is)
      (shown_is_safe cfg cfg (transcript.end_from cfg (first_of_tables cfg) events)
      (end_is_safe cfg sound events honest))
