-- The nodes of a world are those that it had.
use Rattle.std.proofs.Common.{◌≡◌, ℕ, zero, suc, ◌+◌, Bool, true, false, List, [], ◌∷◌, length, Option, Some, None, refl, sym, ap, ◌∙◌, arith, nat_lt}
use Rattle.std.specs.Prelude.{if◌then◌else◌, is_some, slice_get, option_map}
use Rattle.std.proofs.lemmas.Bool.Decides.{nat_tests}
use Rattle.wire_core.specs.declared.node.NodeId.{NodeId}
use Rattle.wire_core.specs.declared.node.NodeId.TheVariants.{Replica, Mux, Agent}
use Rattle.vip_config.specs.declared.parts.ConfigParts.{ConfigParts}
use Rattle.vip_config.specs.Queries.{socket_of}
use Rattle.vip_config.specs.Rules.{HasLengths}
use Rattle.schedule_text.specs.declared.event.Event.{Event}
use Rattle.schedule_text.specs.declared.event.Event.TheVariants as event
use Rattle.schedule_text.specs.declared.event.Single.{Single}
use Rattle.schedule_text.specs.declared.event.Single.TheVariants as single
use Rattle.schedule_text.specs.declared.line.Word.TheVariants.{Other}
use Rattle.node_spec.specs.Sends.{Place, ToNode, ToMachine, ToRouter}
use Rattle.node_spec.specs.Turns.{Input, Arrived, Ticked}
use Rattle.world_spec.specs.Acts.{loss}
use Rattle.world_spec.specs.Nodes.{Lists}
use Rattle.world_spec.specs.World.{Site, World, Sent, at, first_sites, first_world, is_there, least_waiting, posted, put, same_node, sent_at, takes}
use Rattle.world_spec.specs.Steps.{Outcome, act_lines, after_cut, after_turn, cut_opening, only_word, risen, arriving, crash, crash_by, cut_by, cut_deliver, cut_delivered, cut_delivered_to, cut_input, cut_restart, cut_restart_by, deliver, delivered, delivered_to, input, input_by, restart, restart_by}
use Rattle.world_spec.specs.Events.{during, single as one}
use Rattle.world_spec.specs.Transcript.{applied, settle, settle_by}
use Rattle.world_spec.proofs.SiteLaws.{there_put}

-- the same nodes are there
abbrev pub Same : World → World → Type 0
Same w u = (x : NodeId) → is_there u x ≡ is_there w x

then_same : (w u v : World) → Same w u → Same u v → Same w v
then_same w u v first next = λ x. next x ∙ first x

there_posted : (w : World) (ss : List Sent) → Same w (posted w ss)
unfolding is_there
there_posted w ss (Replica i) = refl
there_posted w ss (Mux i) = refl
there_posted w ss (Agent i) = refl

there_takes : (w : World) (k : ℕ) → Same w (takes w k)
unfolding is_there
there_takes w k (Replica i) = refl
there_takes w k (Mux i) = refl
there_takes w k (Agent i) = refl

put_same : (w : World) (x : NodeId) (s : Site) → Same w (put w x s)
put_same w x s = λ y. there_put w x y s

there_if : (b : Bool) (w : World) (r q : Outcome) → Same w r.0 → Same w q.0 → Same w (if b then r else q).0
there_if true w r q here other = here
there_if false w r q here other = other

there_input : (cfg : ConfigParts) (w : World) (x : NodeId) (i : Input) → Same w (input cfg w x i).0
unfolding after_turn
there_input cfg w x i = by (at w x)
  where
    by : (o : Option Lists) → Same w (input_by cfg w x i o).0
    by None = λ y. refl
    by (Some l) = λ y. there_posted _ _ y ∙ there_put w x y _

there_deliver : (cfg : ConfigParts) (w : World) (k : ℕ) → Same w (deliver cfg w k).0
unfolding deliver
there_deliver cfg w k = by (sent_at w k)
  where
    to : (s : Sent) (p : Place) → Same w (delivered_to cfg w k s p).0
    to s (ToNode x) = λ y. there_input cfg (takes w k) x (arriving cfg s) y ∙ there_takes w k y
    to s (ToMachine machine) = λ y. refl
    to s ToRouter = λ y. refl

    by : (o : Option Sent) → Same w (delivered cfg w k o).0
    by None = λ y. refl
    by (Some s) = to s s.to

there_crash : (w : World) (x : NodeId) → Same w (crash w x).0
unfolding crash
there_crash w x = by (at w x)
  where
    by : (o : Option Lists) → Same w (crash_by w x o).0
    by None = λ y. refl
    by (Some l) = put_same w x _

there_restart : (cfg : ConfigParts) (w : World) (x : NodeId) → Same w (restart cfg w x).0
unfolding restart
there_restart cfg w x = by (at w x)
  where
    by : (o : Option Lists) → Same w (restart_by cfg w x o).0
    by None = there_if (is_there w x) w (put w x (risen cfg w x), []) (w, []) (put_same w x (risen cfg w x)) (λ y. refl)
    by (Some l) = λ y. refl

there_cut_by : (cfg : ConfigParts) (w v : World) (x : NodeId) (i : Input) (keep : Bool) (o : Option Lists) → Same w v
    → Same w (cut_by cfg w v x i keep o).0
unfolding after_cut
there_cut_by cfg w v x i keep None same = λ y. refl
there_cut_by cfg w v x i keep (Some l) same = λ y. there_put v x y _ ∙ same y

there_cut_input : (cfg : ConfigParts) (w v : World) (x y : NodeId) (i : Input) (keep : Bool) → Same w v
    → Same w (cut_input cfg w v x y i keep).0
there_cut_input cfg w v x y i keep same =
    there_if (same_node x y) w (cut_by cfg w v x i keep (at w x)) (only_word w Other)
    (there_cut_by cfg w v x i keep (at w x) same) (λ z. refl)

there_cut_deliver : (cfg : ConfigParts) (w : World) (x : NodeId) (k : ℕ) (keep : Bool) → Same w (cut_deliver cfg w x k keep).0
unfolding cut_deliver
there_cut_deliver cfg w x k keep = by (sent_at w k)
  where
    to : (s : Sent) (p : Place) → Same w (cut_delivered_to cfg w x k keep s p).0
    to s (ToNode y) = there_cut_input cfg w (takes w k) x y (arriving cfg s) keep (there_takes w k)
    to s (ToMachine machine) = λ y. refl
    to s ToRouter = λ y. refl

    by : (o : Option Sent) → Same w (cut_delivered cfg w x k keep o).0
    by None = λ y. refl
    by (Some s) = to s s.to

there_cut_restart : (w : World) (x y : NodeId) (keep : Bool) → Same w (cut_restart w x y keep).0
unfolding cut_restart
there_cut_restart w x y keep =
    there_if (same_node x y) w (cut_restart_by w x keep (at w x)) (only_word w Other) (opened_by (at w x)) (λ z. refl)
  where
    opened_by : (o : Option Lists) → Same w (cut_restart_by w x keep o).0
    opened_by None =
        there_if (is_there w x) w (put w x (cut_opening w x keep), act_lines (loss x)) (w, [])
        (put_same w x (cut_opening w x keep)) (λ z. refl)
    opened_by (Some l) = λ z. refl

there_settle : (cfg : ConfigParts) (n : ℕ) (w : World) → Same w (settle cfg n w).0
unfolding settle
there_settle cfg zero w = λ y. refl
there_settle cfg (suc n) w = by (there_settle cfg n) (least_waiting w)
  where
    by : ((v : World) → Same v (settle cfg n v).0) → (o : Option ℕ) → Same w (settle_by cfg w (settle cfg n) o).0
    by rest None = λ y. refl
    by rest (Some k) = λ y. rest (deliver cfg w k).0 y ∙ there_deliver cfg w k y

there_single : (cfg : ConfigParts) (w : World) (e : Single) → Same w (one cfg w e).0
there_single cfg w (single.Deliver k) = there_deliver cfg w k
there_single cfg w (single.Inject x from bytes) = there_input cfg w x (Arrived from bytes)
there_single cfg w (single.Tick x now) = there_input cfg w x (Ticked now)
there_single cfg w (single.Restart x) = there_restart cfg w x

there_during : (cfg : ConfigParts) (w : World) (x : NodeId) (e : Single) (keep : Bool) → Same w (during cfg w x e keep).0
there_during cfg w x (single.Deliver k) keep = there_cut_deliver cfg w x k keep
there_during cfg w x (single.Inject y from bytes) keep = there_cut_input cfg w w x y (Arrived from bytes) keep (λ y. refl)
there_during cfg w x (single.Tick y now) keep = there_cut_input cfg w w x y (Ticked now) keep (λ y. refl)
there_during cfg w x (single.Restart y) keep = there_cut_restart w x y keep

-- after an event
pub there_applied : (cfg : ConfigParts) (w : World) (e : Event) → Same w (applied cfg w e).0
unfolding applied
there_applied cfg w (event.Single e) = there_single cfg w e
there_applied cfg w (event.Settle n) = there_settle cfg n w
there_applied cfg w (event.Crash x) = there_crash w x
there_applied cfg w (event.During x e keep) = there_during cfg w x e keep

-- ---- at first

so_many : (cfg : ConfigParts) (node : ℕ → NodeId) (i n : ℕ) → length (first_sites cfg node i n) ≡ n
so_many cfg node i zero = refl
so_many cfg node i (suc n) = ap suc (so_many cfg node (i + 1) n)

got : {X : Type 0} (xs : List X) (i : ℕ) → nat_lt i (length xs) ≡ is_some (slice_get xs i)
got {X} [] i = grind (arith, nat_tests)
got {X} (x ∷ xs) zero = grind (arith, nat_tests)
got {X} (x ∷ xs) (suc i) = less i (length xs) ∙ got xs i
  where
    less : (a b : ℕ) → nat_lt (suc a) (suc b) ≡ nat_lt a b
    less a b = grind (arith, nat_tests)

mapped : {X Y : Type 0} (f : X → Y) (o : Option X) → is_some o ≡ is_some (option_map f o)
mapped {X} {Y} f None = refl
mapped {X} {Y} f (Some x) = refl

pub there_first : (cfg : ConfigParts) → HasLengths cfg → (x : NodeId) → is_there (first_world cfg) x ≡ is_some (socket_of cfg x)
unfolding is_there first_world
there_first cfg lengths (Replica i) =
    ap (nat_lt i) (so_many cfg Replica 0 5 ∙ sym lengths.replicas) ∙ got cfg.replicas i
there_first cfg lengths (Mux i) = ap (nat_lt i) (so_many cfg Mux 0 (length cfg.muxes)) ∙ got cfg.muxes i
there_first cfg lengths (Agent i) =
    ap (nat_lt i) (so_many cfg Agent 0 (length cfg.agents)) ∙ got cfg.agents i ∙ mapped (λ a. a.socket) (slice_get cfg.agents i)
