-- A world of real nodes finds no room in a journal exactly where the tables say so.
use Rattle.std.proofs.Common.{◌≡◌, ◌⊎◌, inl, inr, ◌≤◌, ℕ, zero, suc, Bool, true, false, List, [], ◌∷◌, map, length, get_or, Option, Some, None, refl, sym, ap, subst, ◌∙◌, nat_lt}
use Rattle.std.specs.Prelude.{if◌then◌else◌, is_some, option_map}
use Rattle.std.proofs.lemmas.List.{length-map, get_or_past}
use Rattle.std.proofs.lemmas.Bool.{ltb-false}
use Rattle.wire_core.specs.declared.node.NodeId.{NodeId}
use Rattle.wire_core.specs.declared.node.NodeId.TheVariants.{Replica, Mux, Agent}
use Rattle.vip_config.specs.declared.parts.ConfigParts.{ConfigParts}
use Rattle.vip_config.specs.Queries.{KnowsOwners, socket_of}
use Rattle.vip_config.specs.Rules.{HasLengths}
use Rattle.schedule_text.specs.declared.event.Event.{Event}
use Rattle.schedule_text.specs.declared.event.Event.TheVariants as event
use Rattle.schedule_text.specs.declared.event.Single.{Single}
use Rattle.schedule_text.specs.declared.event.Single.TheVariants as single
use Rattle.node_spec.specs.Sends.{Place, ToNode, ToMachine, ToRouter}
use Rattle.node_spec.specs.Turns.{Input, Arrived, Ticked}
use Rattle.world_spec.specs.Nodes.{Lists, boot_entry, node_turn}
use Rattle.world_spec.specs.Steps as steps
use Rattle.world_spec.specs.Transcript as transcript
use Rattle.world_spec.specs.World.{Site, World, Sent, at, is_there, nobody, same_node, sent_at, site, first_world as first_of_tables, least_waiting as least_sent}
use Rattle.world_nodes.specs.Nodes.{site_at}
use Rattle.world_nodes.specs.Overflows.{Overflow, cut_overflow_at, cut_node_overflow, cut_restart_overflow_at, cut_restart_node_overflow, kept_overflow, overflow, restart_overflow_at, restart_overflow_by, restart_node_overflow, site_restart_overflow, site_step_overflow, step_overflow_at, step_overflow_by, step_node_overflow}
use Rattle.world_nodes.specs.Sites.{Deciding, Opening, SiteState}
use Rattle.world_model.specs.Firsts.{first_world}
use Rattle.world_model.specs.Overflows as model
use Rattle.world_model.specs.Shown.{FollowsTables, StandsFor, receiver, shown, shown_sent, shown_site}
use Rattle.world_model.specs.TableOverflows as table
use Rattle.world_model.specs.TableOverflows.{IsRunOverflow, OverflowsAsTables}
use Rattle.world_model.specs.World as world
use Rattle.world_model.specs.World.{Outcome, WorldState}
use Rattle.world_model.proofs.ShownFirsts.{first_shown}
use Rattle.world_model.proofs.ShownSends.{least_shown}
use Rattle.world_model.proofs.ShownSites.{read_shown, if_same, sites}
use Rattle.world_model.proofs.ShownWorlds.{applied_shown, deliver_shown, numbered}
use Rattle.world_model.proofs.There.{there_applied, there_first}

-- ---- one node

-- what a turn writes, of a node that may be down
abbrev turn_of : ConfigParts → Site → Input → Option Lists → Option Overflow
turn_of cfg s i None = None
turn_of cfg s i (Some l) = overflow s.entries (node_turn cfg l i).entry

abbrev boot_by : NodeId → Site → Option Lists → Option Overflow
boot_by x s (Some l) = None
boot_by x s None = overflow s.entries (Some (boot_entry x s.entries))

if_none : (b : Bool) → ◌≡◌ {A = Option Overflow} (if b then None else None) None
if_none true = refl
if_none false = refl

if_twice : (b : Bool) (o : Option Overflow) → (if b then (if b then o else None) else None) ≡ (if b then o else None)
if_twice true o = refl
if_twice false o = refl

kept_if : (keep b : Bool) (o : Option Overflow)
    → (if b then kept_overflow keep o else None) ≡ kept_overflow keep (if b then o else None)
kept_if true true o = refl
kept_if true false o = refl
kept_if false true o = refl
kept_if false false o = refl

within : (a b : ℕ) → (nat_lt a b ≡ true) ⊎ (b ≤ a)
within a b = by (nat_lt a b) refl
  where
    by : (t : Bool) → nat_lt a b ≡ t → (nat_lt a b ≡ true) ⊎ (b ≤ a)
    by true e = inl e
    by false e = inr (ltb-false a b e)

module _ {C : Type 0} (cfg : ConfigParts) (core : Lists → C) (step : Deciding C) (recover : Opening C)
    (follows : FollowsTables cfg core step recover) where
  site_turns : (s : Site) (i : Input) → site_step_overflow step (shown_site core s) i ≡ turn_of cfg s i s.up
  site_turns s i = by s.up
    where
      by : (o : Option Lists) → step_overflow_by step (shown_site core s) i (option_map core o) ≡ turn_of cfg s i o
      by None = refl
      by (Some l) = ap (λ t. overflow s.entries t.1) (follows.turns l i)

  site_boots : (x : NodeId) (s : Site) → site_restart_overflow x (shown_site core s) ≡ boot_by x s s.up
  site_boots x s = by s.up
    where
      by : (o : Option Lists) → restart_overflow_by x (shown_site core s) (option_map core o) ≡ boot_by x s o
      by None = refl
      by (Some l) = refl

  -- ---- a node of a list

  steps_at : (ss : List Site) (k : ℕ) (i : Input)
      → step_overflow_at step (sites core ss) k i ≡ turn_of cfg (get_or ss k nobody) i (get_or ss k nobody).up
  steps_at ss k i = elim (within k (length ss)) [
    | inl lt ↦
        ap (λ (n : ℕ). if nat_lt k n then site_step_overflow step (site_at (sites core ss) k) i else None)
        (length-map ss (shown_site core))
        ∙ ap (λ (b : Bool). if b then site_step_overflow step (site_at (sites core ss) k) i else None) lt
        ∙ here
    | inr past ↦
        let gone : turn_of cfg (get_or ss k nobody) i (get_or ss k nobody).up ≡ None =
        ap (λ (s : Site). turn_of cfg s i s.up) (get_or_past ss k nobody past) in
        if_same core (nat_lt k (length (sites core ss))) (site_step_overflow step (site_at (sites core ss) k) i) None
        (here ∙ gone)
        ∙ sym gone
  ]
    where
      here : site_step_overflow step (site_at (sites core ss) k) i ≡ turn_of cfg (get_or ss k nobody) i (get_or ss k nobody).up
      here = ap (λ (s : SiteState C). site_step_overflow step s i) (read_shown core ss k) ∙ site_turns (get_or ss k nobody) i

  cuts_at : (ss : List Site) (k : ℕ) (i : Input) (keep : Bool)
      → cut_overflow_at step (sites core ss) k i keep
      ≡ kept_overflow keep (turn_of cfg (get_or ss k nobody) i (get_or ss k nobody).up)
  cuts_at ss k i keep =
      kept_if keep (nat_lt k (length (sites core ss))) (site_step_overflow step (site_at (sites core ss) k) i)
      ∙ ap (kept_overflow keep) (steps_at ss k i)

  boots_at : (x : NodeId) (ss : List Site) (k : ℕ)
      → restart_overflow_at x (sites core ss) k
      ≡ (if nat_lt k (length ss) then boot_by x (get_or ss k nobody) (get_or ss k nobody).up else None)
  boots_at x ss k =
      ap (λ (n : ℕ). if nat_lt k n then site_restart_overflow x (site_at (sites core ss) k) else None)
      (length-map ss (shown_site core))
      ∙ ap (λ (s : SiteState C). if nat_lt k (length ss) then site_restart_overflow x s else None) (read_shown core ss k)
      ∙ ap (λ (o : Option Overflow). if nat_lt k (length ss) then o else None) (site_boots x (get_or ss k nobody))

  cut_boots_at : (x : NodeId) (ss : List Site) (k : ℕ) (keep : Bool)
      → cut_restart_overflow_at x (sites core ss) k keep
      ≡ kept_overflow keep (if nat_lt k (length ss) then boot_by x (get_or ss k nobody) (get_or ss k nobody).up else None)
  cut_boots_at x ss k keep =
      kept_if keep (nat_lt k (length (sites core ss))) (site_restart_overflow x (site_at (sites core ss) k))
      ∙ ap (kept_overflow keep) (boots_at x ss k)

  -- ---- a node by its name

  abbrev see : World → WorldState C
  see w = shown cfg core w

  turn_same : (w : World) (x : NodeId) (i : Input) (o : Option Lists) → turn_of cfg (site w x) i o ≡ table.turn_overflow cfg w x i o
  turn_same w x i None = refl
  turn_same w x i (Some l) = refl

  boot_same : (w : World) (x : NodeId) (o : Option Lists) → boot_by x (site w x) o ≡ table.boot_overflow w x o
  boot_same w x None = refl
  boot_same w x (Some l) = refl

  input_over : (w : World) (x : NodeId) (i : Input) → step_node_overflow step (see w).nodes x i ≡ table.input_overflow cfg w x i
  unfolding site
  input_over w (Replica k) i = steps_at w.replicas k i ∙ turn_same w (Replica k) i (at w (Replica k))
  input_over w (Mux k) i = steps_at w.muxes k i ∙ turn_same w (Mux k) i (at w (Mux k))
  input_over w (Agent k) i = steps_at w.agents k i ∙ turn_same w (Agent k) i (at w (Agent k))

  cut_over : (w : World) (x : NodeId) (i : Input) (keep : Bool)
      → cut_node_overflow step (see w).nodes x i keep ≡ kept_overflow keep (table.input_overflow cfg w x i)
  unfolding site
  cut_over w (Replica k) i keep =
      cuts_at w.replicas k i keep ∙ ap (kept_overflow keep) (turn_same w (Replica k) i (at w (Replica k)))
  cut_over w (Mux k) i keep = cuts_at w.muxes k i keep ∙ ap (kept_overflow keep) (turn_same w (Mux k) i (at w (Mux k)))
  cut_over w (Agent k) i keep =
      cuts_at w.agents k i keep ∙ ap (kept_overflow keep) (turn_same w (Agent k) i (at w (Agent k)))

  -- a boot, where the node is there
  boot_there : (w : World) (x : NodeId) → (if is_there w x then boot_by x (site w x) (at w x) else None) ≡ table.restart_overflow w x
  boot_there w x = ap (λ (o : Option Overflow). if is_there w x then o else None) (boot_same w x (at w x))

  boot_over : (w : World) (x : NodeId) → restart_node_overflow (see w).nodes x ≡ table.restart_overflow w x
  unfolding site is_there
  boot_over w (Replica k) = boots_at (Replica k) w.replicas k ∙ boot_there w (Replica k)
  boot_over w (Mux k) = boots_at (Mux k) w.muxes k ∙ boot_there w (Mux k)
  boot_over w (Agent k) = boots_at (Agent k) w.agents k ∙ boot_there w (Agent k)

  cut_boot_over : (w : World) (x : NodeId) (keep : Bool)
      → cut_restart_node_overflow (see w).nodes x keep ≡ kept_overflow keep (table.restart_overflow w x)
  unfolding site is_there
  cut_boot_over w (Replica k) keep =
      cut_boots_at (Replica k) w.replicas k keep ∙ ap (kept_overflow keep) (boot_there w (Replica k))
  cut_boot_over w (Mux k) keep = cut_boots_at (Mux k) w.muxes k keep ∙ ap (kept_overflow keep) (boot_there w (Mux k))
  cut_boot_over w (Agent k) keep =
      cut_boots_at (Agent k) w.agents k keep ∙ ap (kept_overflow keep) (boot_there w (Agent k))

  module _ (owners : KnowsOwners cfg) where
    -- ---- an event at one node

    deliver_over : (w : World) (k : ℕ) → model.deliver_overflow step (see w) k ≡ table.deliver_overflow cfg w k
    unfolding model.deliver_overflow table.deliver_overflow
    deliver_over w k =
        ap (model.deliver_overflow_at step (see w)) (numbered cfg core step recover follows owners w k) ∙ by (sent_at w k)
      where
        to : (s : Sent) (p : Place)
            → model.deliver_overflow_to step (see w) (shown_sent s) (receiver p) ≡ table.delivered_overflow_to cfg w s p
        to s (ToNode x) = input_over w x (steps.arriving cfg s)
        to s (ToMachine machine) = refl
        to s ToRouter = refl

        by : (o : Option Sent)
            → model.deliver_overflow_at step (see w) (option_map shown_sent o) ≡ table.delivered_overflow cfg w o
        by None = refl
        by (Some s) = to s s.to

    abbrev IsThere : World → NodeId → Type 0
    IsThere w x = is_there w x ≡ is_some (socket_of cfg x)

    restart_over : (w : World) (x : NodeId) → IsThere w x → model.restart_overflow (see w) x ≡ table.restart_overflow w x
    restart_over w x there =
        ap (λ (b : Bool). if b then restart_node_overflow (see w).nodes x else None) (sym there)
        ∙ ap (λ (o : Option Overflow). if is_there w x then o else None) (boot_over w x)
        ∙ if_twice (is_there w x) (table.boot_overflow w x (at w x))

    single_over : (w : World) → ((x : NodeId) → IsThere w x) → (e : Single)
        → model.single_overflow step (see w) e ≡ table.single_overflow cfg w e
    single_over w there (single.Deliver k) = deliver_over w k
    single_over w there (single.Inject x from bytes) = input_over w x (Arrived from bytes)
    single_over w there (single.Tick x now) = input_over w x (Ticked now)
    single_over w there (single.Restart x) = restart_over w x (there x)

    -- ---- a crash within

    cut_input_over : (w : World) (x y : NodeId) (i : Input) (keep : Bool)
        → model.cut_input_overflow step (see w) x y i keep ≡ table.cut_input_overflow cfg w x y i keep
    cut_input_over w x y i keep = ap (λ (o : Option Overflow). if same_node x y then o else None) (cut_over w x i keep)

    cut_deliver_over : (w : World) (x : NodeId) (k : ℕ) (keep : Bool)
        → model.during_overflow step (see w) x (single.Deliver k) keep
        ≡ table.during_overflow cfg w x (single.Deliver k) keep
    cut_deliver_over w x k keep =
        ap (model.cut_deliver_overflow_at step (see w) x keep) (numbered cfg core step recover follows owners w k)
        ∙ by (sent_at w k)
      where
        to : (s : Sent) (p : Place)
            → model.cut_deliver_overflow_to step (see w) x keep (shown_sent s) (receiver p)
            ≡ table.cut_delivered_overflow_to cfg w x keep s p
        to s (ToNode y) = cut_input_over w x y (steps.arriving cfg s) keep
        to s (ToMachine machine) = refl
        to s ToRouter = refl

        by : (o : Option Sent)
            → model.cut_deliver_overflow_at step (see w) x keep (option_map shown_sent o)
            ≡ table.cut_delivered_overflow cfg w x keep o
        by None = refl
        by (Some s) = to s s.to

    cut_opening_over : (w : World) (x : NodeId) (keep : Bool) → IsThere w x
        → model.cut_opening_overflow (see w) x keep ≡ kept_overflow keep (table.restart_overflow w x)
    cut_opening_over w x keep there =
        ap (λ (b : Bool). if b then cut_restart_node_overflow (see w).nodes x keep else None) (sym there)
        ∙ ap (λ (o : Option Overflow). if is_there w x then o else None) (cut_boot_over w x keep)
        ∙ kept_if keep (is_there w x) (table.restart_overflow w x)
        ∙ ap (kept_overflow keep) (if_twice (is_there w x) (table.boot_overflow w x (at w x)))

    during_over : (w : World) → ((x : NodeId) → IsThere w x) → (x : NodeId) (e : Single) (keep : Bool)
        → model.during_overflow step (see w) x e keep ≡ table.during_overflow cfg w x e keep
    during_over w there x (single.Deliver k) keep = cut_deliver_over w x k keep
    during_over w there x (single.Inject y from bytes) keep = cut_input_over w x y (Arrived from bytes) keep
    during_over w there x (single.Tick y now) keep = cut_input_over w x y (Ticked now) keep
    during_over w there x (single.Restart y) keep =
        ap (λ (o : Option Overflow). if same_node x y then o else None) (cut_opening_over w x keep (there x))

    -- ---- one after the other

    settle_over : (n : ℕ) (w : World) → model.settle_overflow step n (see w) ≡ table.settle_overflow cfg n w
    unfolding model.settle_overflow table.settle_overflow
    settle_over zero w = refl
    settle_over (suc n) w =
        ap (model.settle_overflow_by step (see w) (model.settle_overflow step n)) (least_shown cfg core w)
        ∙ by (settle_over n) (least_sent w)
      where
        by : ((v : World) → model.settle_overflow step n (see v) ≡ table.settle_overflow cfg n v) → (o : Option ℕ)
            → model.settle_overflow_by step (see w) (model.settle_overflow step n) o
            ≡ table.settle_overflow_by cfg w (table.settle_overflow cfg n) o
        by rest None = refl
        by rest (Some k) =
            ap (λ (r : Outcome C). model.first_of (model.deliver_overflow step (see w) k) (model.settle_overflow step n r.0))
            (deliver_shown cfg core step recover follows owners w k)
            ∙ ap (λ (o : Option Overflow). model.first_of o (model.settle_overflow step n (see (steps.deliver cfg w k).0)))
            (deliver_over w k)
            ∙ ap (model.first_of (table.deliver_overflow cfg w k)) (rest (steps.deliver cfg w k).0)

    event_over : (w : World) → ((x : NodeId) → IsThere w x) → (e : Event)
        → model.event_overflow step (see w) e ≡ table.event_overflow cfg w e
    unfolding model.event_overflow table.event_overflow
    event_over w there (event.Single e) = single_over w there e
    event_over w there (event.Settle n) = settle_over n w
    event_over w there (event.Crash x) = refl
    event_over w there (event.During x e keep) = during_over w there x e keep

    run_over : (es : List Event) (w : World) → ((x : NodeId) → IsThere w x)
        → model.run_overflow step recover (see w) es ≡ table.overflow_from cfg w es
    unfolding model.run_overflow table.overflow_from
    run_over [] w there = refl
    run_over (e ∷ es) w there =
        ap (λ (r : Outcome C). model.first_of (model.event_overflow step (see w) e) (model.run_overflow step recover r.0 es))
        (applied_shown cfg core step recover follows owners w there e)
        ∙ ap (λ (o : Option Overflow). model.first_of o (model.run_overflow step recover (see (transcript.applied cfg w e).0) es))
        (event_over w there e)
        ∙ ap (model.first_of (table.event_overflow cfg w e))
        (run_over es (transcript.applied cfg w e).0 (λ x. there_applied cfg w e x ∙ there x))

pub overflows_as_tables : {C : Type 0} (step : Deciding C) (recover : Opening C) (v : WorldState C) (e : Event)
    → KnowsOwners v.cfg → OverflowsAsTables step recover v e
overflows_as_tables {C} step recover v e owners core follows w stands =
    ap (λ (u : WorldState C). model.event_overflow step u e) stands.shows
    ∙ event_over v.cfg core step recover follows owners w stands.there e

pub is_run_overflow : {C : Type 0} (step : Deciding C) (recover : Opening C) (cfg : ConfigParts) (es : List Event)
    → HasLengths cfg → KnowsOwners cfg
    → IsRunOverflow step recover cfg es (model.run_overflow step recover (first_world recover cfg) es)
is_run_overflow {C} step recover cfg es lengths owners core follows =
    ap (λ (w : WorldState C). model.run_overflow step recover w es) (first_shown cfg core step recover follows lengths)
    ∙ run_over cfg core step recover follows owners es (first_of_tables cfg) (there_first cfg lengths)
