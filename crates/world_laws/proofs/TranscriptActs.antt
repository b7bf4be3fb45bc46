-- The acts that a transcript's lines say are those of its run.
use Rattle.std.proofs.Common.{◌≡◌, refl, sym, ap, ◌∙◌, ℕ, zero, suc, List, [], ◌∷◌, ◌++◌, Option, Some, None, append-nil, append_assoc}
use Rattle.std.specs.Prelude.{fold}
use Rattle.wire_core.specs.declared.act.Act.{Act}
use Rattle.vip_config.specs.declared.parts.ConfigParts.{ConfigParts}
use Rattle.schedule_text.specs.declared.event.Event.{Event}
use Rattle.schedule_text.specs.declared.event.Event.TheVariants as event
use Rattle.world_spec.specs.Events.{Basic, after, after_event, basics, basics_from, expand, happens, settled, settled_by}
use Rattle.world_spec.specs.History.{Run, first_run, run, run_after}
use Rattle.world_spec.specs.Steps.{deliver}
use Rattle.world_spec.specs.Transcript.{acts_in, applied, lines_from, settle, settle_by, transcript}
use Rattle.world_spec.specs.World.{World, first_world, least_waiting}
use Rattle.world_spec.proofs.LineLaws.{acts_append}
use Rattle.world_spec.proofs.Settles.{applied_is}

-- what events show, from a world on
abbrev shown : ConfigParts → World → List Basic → List Act
shown cfg w [] = []
shown cfg w (b ∷ bs) = acts_in (happens cfg w b).1 ++ shown cfg (after cfg w b) bs

shown_append : (cfg : ConfigParts) (bs cs : List Basic) (w : World)
    → shown cfg w (bs ++ cs) ≡ shown cfg w bs ++ shown cfg (fold (after cfg) w bs) cs
shown_append cfg [] cs w = refl
shown_append cfg (b ∷ bs) cs w =
    ap (λ (xs : List Act). acts_in (happens cfg w b).1 ++ xs) (shown_append cfg bs cs (after cfg w b))
    ∙ sym (append_assoc (acts_in (happens cfg w b).1) (shown cfg (after cfg w b) bs) _)

run_shown : (cfg : ConfigParts) (bs : List Basic) (r : Run)
    → (fold (run_after cfg) r bs).acts ≡ r.acts ++ shown cfg r.world bs
run_shown cfg [] r = sym (append-nil r.acts)
run_shown cfg (b ∷ bs) r =
    run_shown cfg bs (run_after cfg r b)
    ∙ append_assoc r.acts (acts_in (happens cfg r.world b).1) (shown cfg (after cfg r.world b) bs)

-- ---- the lines of an event

by_least : (cfg : ConfigParts) (n : ℕ) (w : World)
    → ((v : World) → acts_in (settle cfg n v).1 ≡ shown cfg v (settled cfg n v))
    → (o : Option ℕ)
    → acts_in (settle_by cfg w (settle cfg n) o).1 ≡ shown cfg w (settled_by cfg w (settled cfg n) o)
unfolding happens acts_in
by_least cfg n w more None = refl
by_least cfg n w more (Some k) =
    acts_append (deliver cfg w k).1 (settle cfg n (deliver cfg w k).0).1
    ∙ ap (λ (xs : List Act). acts_in (deliver cfg w k).1 ++ xs) (more (deliver cfg w k).0)

settle_shown : (cfg : ConfigParts) (n : ℕ) (w : World) → acts_in (settle cfg n w).1 ≡ shown cfg w (settled cfg n w)
unfolding settle settled acts_in
settle_shown cfg zero w = refl
settle_shown cfg (suc n) w = by_least cfg n w (settle_shown cfg n) (least_waiting w)

applied_shown : (cfg : ConfigParts) (w : World) (e : Event) → acts_in (applied cfg w e).1 ≡ shown cfg w (basics cfg w e)
unfolding applied happens
applied_shown cfg w (event.Single e) = sym (append-nil _)
applied_shown cfg w (event.Settle n) = settle_shown cfg n w
applied_shown cfg w (event.Crash x) = sym (append-nil _)
applied_shown cfg w (event.During x e keep) = sym (append-nil _)

-- ---- the lines of a schedule

lines_shown : (cfg : ConfigParts) (es : List Event) (w : World)
    → acts_in (lines_from cfg w es) ≡ shown cfg w (basics_from cfg w es)
unfolding lines_from basics_from acts_in
lines_shown cfg [] w = refl
lines_shown cfg (e ∷ es) w =
    acts_append (applied cfg w e).1 (lines_from cfg (applied cfg w e).0 es)
    ∙ ap (λ (xs : List Act). xs ++ acts_in (lines_from cfg (applied cfg w e).0 es)) (applied_shown cfg w e)
    ∙ ap (λ (xs : List Act). shown cfg w (basics cfg w e) ++ xs)
    (lines_shown cfg es (applied cfg w e).0
    ∙ ap (λ (v : World). shown cfg v (basics_from cfg v es)) (applied_is cfg w e))
    ∙ sym (shown_append cfg (basics cfg w e) (basics_from cfg (after_event cfg w e) es) w)

pub transcript_shows : (cfg : ConfigParts) (es : List Event)
    → acts_in (transcript cfg es) ≡ (run cfg (expand cfg es)).acts
unfolding run
transcript_shows cfg es =
    lines_shown cfg es (first_world cfg) ∙ sym (run_shown cfg (expand cfg es) (first_run cfg))
