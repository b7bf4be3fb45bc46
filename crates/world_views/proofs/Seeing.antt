-- What is seen of a world's nodes is the view of each world by the tables that it stands for.
use Rattle.std.proofs.Common.{◌≡◌, ◌≤◌, ℕ, zero, suc, List, [], ◌∷◌, ◌++◌, map, length, take, Option, Some, None, refl, sym, ap, ◌∙◌, arith, nat_lt}
use Rattle.std.specs.Prelude.{is_some, slice_get, option_map}
use Rattle.std.specs.List.{flat_map}
use Rattle.std.proofs.Math.Seq.{take-suc, take-length}
use Rattle.std.proofs.lemmas.Bool.Decides.{nat_tests}
use Rattle.std.proofs.lemmas.List.{flat_map_more, length-map}
use Rattle.agent_spec.specs.declared.connection.Connection.{Connection}
use Rattle.node_roles.specs.declared.role.Role.{Role}
use Rattle.node_schedule.specs.Roles.{role_of}
use Rattle.vip_config.specs.declared.parts.ConfigParts.{ConfigParts}
use Rattle.wire_core.specs.declared.node.NodeId.TheVariants.{Replica, Mux, Agent}
use Rattle.world_model.specs.Shown.{StandsFor, shown_site}
use Rattle.world_model.specs.World.{WorldState}
use Rattle.world_nodes.specs.Nodes.{nobody, site_at}
use Rattle.world_nodes.specs.Sites.{SiteState}
use Rattle.world_spec.specs.Nodes.{Lists, OfManager, OfMux, OfAgent}
use Rattle.world_spec.specs.Views.{entries, held, held_of, rows_of}
use Rattle.world_spec.specs.World.{Site, World, is_there}
use Rattle.world_spec.specs.declared.views.Held.{Held}
use Rattle.world_spec.specs.declared.views.MuxRow.{MuxRow}
use Rattle.world_views.specs.Seen.{held_in, live_in, rows_in, seen}
use Rattle.world_views.specs.Views.{AreEntriesOf, AreHeldOf, AreLiveOf, live, live_of}

-- ---- how many nodes there are

got : {X : Type 0} (xs : List X) (i : ℕ) → is_some (slice_get xs i) ≡ nat_lt i (length xs)
got {X} [] i = grind (arith, nat_tests)
got {X} (x ∷ xs) zero = grind (arith, nat_tests)
got {X} (x ∷ xs) (suc i) = got xs i ∙ less i (length xs)
  where
    less : (a b : ℕ) → nat_lt a b ≡ nat_lt (suc a) (suc b)
    less a b = grind (arith, nat_tests)

mapped : {X Y : Type 0} (f : X → Y) (o : Option X) → is_some (option_map f o) ≡ is_some o
mapped {X} {Y} f None = refl
mapped {X} {Y} f (Some x) = refl

-- numbers above the same numbers are the same
same_bound : (a b : ℕ) → nat_lt a a ≡ nat_lt a b → nat_lt b a ≡ nat_lt b b → a ≡ b
same_bound a b at_a at_b = grind (arith, nat_tests)

module _ {C : Type 0} (core : Lists → C) (v : WorldState C) (w : World) (stands : StandsFor core v w) where
  pub agents_there : length v.cfg.agents ≡ length w.agents
  unfolding is_there
  agents_there = same_bound (length v.cfg.agents) (length w.agents) (at (length v.cfg.agents)) (at (length w.agents))
    where
      at : (i : ℕ) → nat_lt i (length v.cfg.agents) ≡ nat_lt i (length w.agents)
      at i = sym (stands.there (Agent i) ∙ mapped (λ agent. agent.socket) (slice_get v.cfg.agents i) ∙ got v.cfg.agents i)

  pub muxes_there : length v.cfg.muxes ≡ length w.muxes
  unfolding is_there
  muxes_there = same_bound (length v.cfg.muxes) (length w.muxes) (at (length v.cfg.muxes)) (at (length w.muxes))
    where
      at : (i : ℕ) → nat_lt i (length v.cfg.muxes) ≡ nat_lt i (length w.muxes)
      at i = sym (stands.there (Mux i) ∙ got v.cfg.muxes i)

  pub replicas_there : length v.cfg.replicas ≡ length w.replicas
  unfolding is_there
  replicas_there =
      same_bound (length v.cfg.replicas) (length w.replicas) (at (length v.cfg.replicas)) (at (length w.replicas))
    where
      at : (i : ℕ) → nat_lt i (length v.cfg.replicas) ≡ nat_lt i (length w.replicas)
      at i = sym (stands.there (Replica i) ∙ got v.cfg.replicas i)

-- ---- what is seen of nodes

-- of the first n
seen_front : {A : Type 0} (see : Option Role → List A) (ss : List (SiteState Role)) (n : ℕ) → n ≤ length ss
    → seen see ss n ≡ flat_map (λ (s : SiteState Role). see s.up) (take n ss)
seen_front {A} see ss zero le = refl
seen_front {A} see ss (suc n) le =
    ap (λ (xs : List A). xs ++ see (site_at ss n).up) (seen_front see ss n (omega (arith, le)))
    ∙ flat_map_more (λ (s : SiteState Role). see s.up) [] (take n ss) (site_at ss n)
    ∙ ap (flat_map (λ (s : SiteState Role). see s.up)) (sym (take-suc ss n nobody (omega (arith, le))))

-- of all that show these sites
module _ {A : Type 0} (see : Option Role → List A) (view : Option Lists → List A) (cfg : ConfigParts)
    (same : (o : Option Lists) → see (option_map (role_of cfg) o) ≡ view o) where
  all_shown : (ws : List Site) → flat_map (λ (s : SiteState Role). see s.up) (map (shown_site (role_of cfg)) ws)
      ≡ flat_map (λ (s : Site). view s.up) ws
  all_shown [] = refl
  all_shown (s ∷ ws) =
      ap (λ (l : List A). l ++ flat_map (λ (t : SiteState Role). see t.up) (map (shown_site (role_of cfg)) ws)) (same s.up)
      ∙ ap (λ (l : List A). view s.up ++ l) (all_shown ws)

  pub seen_all : (ss : List (SiteState Role)) (ws : List Site) (n : ℕ) → ss ≡ map (shown_site (role_of cfg)) ws
      → n ≡ length ws → seen see ss n ≡ flat_map (λ (s : Site). view s.up) ws
  seen_all ss ws n shows so_many =
      let all : n ≡ length ss =
      so_many ∙ sym (length-map ws (shown_site (role_of cfg))) ∙ ap length (sym shows) in
      seen_front see ss n (omega (arith, all))
      ∙ ap (λ (m : ℕ). flat_map (λ (s : SiteState Role). see s.up) (take m ss)) all
      ∙ ap (flat_map (λ (s : SiteState Role). see s.up)) (take-length ss ∙ shows)
      ∙ all_shown ws

-- ---- the views

same_held : (cfg : ConfigParts) (o : Option Lists) → held_in (option_map (role_of cfg) o) ≡ held_of o
same_held cfg None = refl
same_held cfg (Some (OfManager m)) = refl
same_held cfg (Some (OfMux m)) = refl
same_held cfg (Some (OfAgent a)) = refl

pub are_held : (v : WorldState Role) (list : List Held) → list ≡ seen held_in v.nodes.agents (length v.cfg.agents)
    → AreHeldOf v list
unfolding held
are_held v list is w stands =
    is ∙ seen_all held_in held_of v.cfg (same_held v.cfg) v.nodes.agents w.agents (length v.cfg.agents)
    (ap (λ (u : WorldState Role). u.nodes.agents) stands.shows) (agents_there (role_of v.cfg) v w stands)

same_live : (cfg : ConfigParts) (o : Option Lists) → live_in (option_map (role_of cfg) o) ≡ live_of o
same_live cfg None = refl
same_live cfg (Some (OfManager m)) = refl
same_live cfg (Some (OfMux m)) = refl
same_live cfg (Some (OfAgent a)) = refl

pub are_live : (v : WorldState Role) (list : List Connection) → list ≡ seen live_in v.nodes.agents (length v.cfg.agents)
    → AreLiveOf v list
unfolding live
are_live v list is w stands =
    is ∙ seen_all live_in live_of v.cfg (same_live v.cfg) v.nodes.agents w.agents (length v.cfg.agents)
    (ap (λ (u : WorldState Role). u.nodes.agents) stands.shows) (agents_there (role_of v.cfg) v w stands)

same_rows : (cfg : ConfigParts) (o : Option Lists) → rows_in (option_map (role_of cfg) o) ≡ rows_of o
same_rows cfg None = refl
same_rows cfg (Some (OfManager m)) = refl
same_rows cfg (Some (OfMux m)) = refl
same_rows cfg (Some (OfAgent a)) = refl

pub are_entries : (v : WorldState Role) (list : List MuxRow) → list ≡ seen rows_in v.nodes.muxes (length v.cfg.muxes)
    → AreEntriesOf v list
unfolding entries
are_entries v list is w stands =
    is ∙ seen_all rows_in rows_of v.cfg (same_rows v.cfg) v.nodes.muxes w.muxes (length v.cfg.muxes)
    (ap (λ (u : WorldState Role). u.nodes.muxes) stands.shows) (muxes_there (role_of v.cfg) v w stands)
