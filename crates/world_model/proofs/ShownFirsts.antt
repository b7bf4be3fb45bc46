-- The first world of real nodes shows the first world, and a schedule's lines are its transcript.
use Rattle.std.proofs.Common.{◌≡◌, ℕ, zero, suc, ◌+◌, List, [], ◌∷◌, ◌++◌, map, length, Some, refl, sym, ap, ◌∙◌, arith}
use Rattle.std.specs.Prelude.{is_some}
use Rattle.std.proofs.lemmas.List.{map-append}
use Rattle.wire_core.specs.declared.node.NodeId.{NodeId}
use Rattle.wire_core.specs.declared.node.NodeId.TheVariants as id
use Rattle.vip_config.specs.declared.parts.ConfigParts.{ConfigParts}
use Rattle.vip_config.specs.Queries.{KnowsOwners, socket_of}
use Rattle.vip_config.specs.Rules.{HasLengths}
use Rattle.schedule_text.specs.declared.event.Event.{Event}
use Rattle.schedule_text.specs.declared.line.Line.{Line}
use Rattle.schedule_text.specs.declared.line.Line.TheVariants as line
use Rattle.world_spec.specs.Nodes.{Lists, booted}
use Rattle.world_spec.specs.World.{Site, World, is_there, first_site as first_by_table, first_sites as first_by_tables, first_world as first_of_tables}
use Rattle.world_spec.specs.Transcript as transcript
use Rattle.world_nodes.specs.Firsts.{first_sites}
use Rattle.world_model.specs.Firsts.{first_world}
use Rattle.world_model.specs.Shown.{FollowsTables, shown, shown_site}
use Rattle.world_nodes.specs.Sites.{Deciding, Opening, SiteState, first_site}
use Rattle.world_model.specs.World as model
use Rattle.world_model.specs.World.{Outcome, WorldState}
use Rattle.world_model.proofs.ShownWorlds.{applied_shown}
use Rattle.world_model.proofs.There.{there_applied, there_first}

module _ {C : Type 0} (cfg : ConfigParts) (core : Lists → C) (step : Deciding C) (recover : Opening C)
    (follows : FollowsTables cfg core step recover) where
  one_shown : (x : NodeId) → first_site recover cfg x ≡ shown_site core (first_by_table cfg x)
  one_shown x =
      ap (λ (c : C). record { entries = booted x []; learned = 0; up = Some c }) (follows.opens x (booted x []))

  one_more : (node : ℕ → NodeId) (i n j : ℕ) → j ≡ i + n
      → first_by_tables cfg node i (suc n) ≡ first_by_tables cfg node i n ++ first_by_table cfg (node j) ∷ []
  one_more node i zero j is =
      let e : i ≡ j = omega (arith, is) in ap (λ (k : ℕ). first_by_table cfg (node k) ∷ []) e
  one_more node i (suc n) j is =
      let e : j ≡ i + 1 + n = omega (arith, is) in
      ap (λ (l : List Site). first_by_table cfg (node i) ∷ l) (one_more node (i + 1) n j e)

  sites_shown : (node : ℕ → NodeId) (n : ℕ) → first_sites recover cfg node n ≡ map (shown_site core) (first_by_tables cfg node 0 n)
  sites_shown node zero = refl
  sites_shown node (suc n) =
      let e : n ≡ 0 + n = omega arith in
      ap (λ (l : List (SiteState C)). l ++ first_site recover cfg (node n) ∷ []) (sites_shown node n)
      ∙ ap (λ (s : SiteState C). map (shown_site core) (first_by_tables cfg node 0 n) ++ s ∷ []) (one_shown (node n))
      ∙ sym (map-append (shown_site core) (first_by_tables cfg node 0 n) (first_by_table cfg (node n) ∷ []))
      ∙ ap (map (shown_site core)) (sym (one_more node 0 n n e))

  pub first_shown : HasLengths cfg → first_world recover cfg ≡ shown cfg core (first_of_tables cfg)
  unfolding first_of_tables
  first_shown lengths =
      ap (λ (ss : List (SiteState C)). record {
        cfg = cfg;
        nodes = record { replicas = ss; muxes = first_sites recover cfg id.Mux (length cfg.muxes); agents = first_sites recover cfg id.Agent (length cfg.agents) };
        mail = record { posted = []; taken = [] };
      }) (ap (first_sites recover cfg id.Replica) lengths.replicas ∙ sites_shown id.Replica 5)
      ∙ ap (λ (ss : List (SiteState C)). record {
        cfg = cfg;
        nodes = record { replicas = map (shown_site core) (first_by_tables cfg id.Replica 0 5); muxes = ss; agents = first_sites recover cfg id.Agent (length cfg.agents) };
        mail = record { posted = []; taken = [] };
      }) (sites_shown id.Mux (length cfg.muxes))
      ∙ ap (λ (ss : List (SiteState C)). record {
        cfg = cfg;
        nodes = record {
          replicas = map (shown_site core) (first_by_tables cfg id.Replica 0 5);
          muxes = map (shown_site core) (first_by_tables cfg id.Mux 0 (length cfg.muxes));
          agents = ss;
        };
        mail = record { posted = []; taken = [] };
      }) (sites_shown id.Agent (length cfg.agents))

  module _ (owners : KnowsOwners cfg) where
    next_lines : (r : Outcome C) (q : World × List Line) (es : List Event) (e : Event) → r ≡ (shown cfg core q.0, q.1)
        → ((w : World) → ((x : NodeId) → is_there w x ≡ is_some (socket_of cfg x))
        → model.lines_from step recover (shown cfg core w) es ≡ transcript.lines_from cfg w es)
        → ((x : NodeId) → is_there q.0 x ≡ is_some (socket_of cfg x))
        → line.Event e ∷ r.1 ++ model.lines_from step recover r.0 es ≡ line.Event e ∷ q.1 ++ transcript.lines_from cfg q.0 es
    next_lines r q es e is more there =
        ap (λ (s : Outcome C). line.Event e ∷ s.1 ++ model.lines_from step recover s.0 es) is
        ∙ ap (λ (ls : List Line). line.Event e ∷ q.1 ++ ls) (more q.0 there)

    -- the lines of some events are the transcript's
    pub lines_shown : (es : List Event) (w : World) → ((x : NodeId) → is_there w x ≡ is_some (socket_of cfg x))
        → model.lines_from step recover (shown cfg core w) es ≡ transcript.lines_from cfg w es
    unfolding model.lines_from transcript.lines_from
    lines_shown [] w there = refl
    lines_shown (e ∷ es) w there =
        next_lines (model.applied step recover (shown cfg core w) e) (transcript.applied cfg w e) es e
        (applied_shown cfg core step recover follows owners w there e) (lines_shown es)
        (λ x. there_applied cfg w e x ∙ there x)

    pub transcript_shown : HasLengths cfg → (es : List Event)
        → model.lines_from step recover (first_world recover cfg) es ≡ transcript.transcript cfg es
    transcript_shown lengths es =
        ap (λ (w : WorldState C). model.lines_from step recover w es) (first_shown lengths)
        ∙ lines_shown es (first_of_tables cfg) (there_first cfg lengths)
