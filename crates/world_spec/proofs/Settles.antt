-- A settle is its deliveries, and a transcript ends in the world of its events.
use Rattle.std.proofs.Common.{◌≡◌, ◌∙◌, ℕ, zero, suc, List, [], ◌∷◌, ◌++◌, Option, Some, None, refl, sym, ap}
use Rattle.std.specs.Prelude.{fold}
use Rattle.std.proofs.lemmas.List.Sums.{fold-append}
use Rattle.vip_config.specs.declared.parts.ConfigParts.{ConfigParts}
use Rattle.schedule_text.specs.declared.event.Event.{Event}
use Rattle.schedule_text.specs.declared.event.Event.TheVariants as event
use Rattle.world_spec.specs.World.{World, first_world, least_waiting}
use Rattle.world_spec.specs.Steps.{deliver}
use Rattle.world_spec.specs.Events.{Basic, happens, after, world, settled, settled_by, after_event, basics, basics_from, expand}
use Rattle.world_spec.specs.Transcript.{settle, settle_by, applied, end_from}

by_least : (cfg : ConfigParts) (n : ℕ) (w : World) → ((v : World) → (settle cfg n v).0 ≡ fold (after cfg) v (settled cfg n v))
    → (o : Option ℕ) → (settle_by cfg w (settle cfg n) o).0 ≡ fold (after cfg) w (settled_by cfg w (settled cfg n) o)
unfolding happens
by_least cfg n w more None = refl
by_least cfg n w more (Some k) = more (deliver cfg w k).0

settle_is : (cfg : ConfigParts) (n : ℕ) (w : World) → (settle cfg n w).0 ≡ fold (after cfg) w (settled cfg n w)
unfolding settle settled
settle_is cfg zero w = refl
settle_is cfg (suc n) w = by_least cfg n w (settle_is cfg n) (least_waiting w)

pub applied_is : (cfg : ConfigParts) (w : World) (e : Event) → (applied cfg w e).0 ≡ after_event cfg w e
unfolding applied happens
applied_is cfg w (event.Single e) = refl
applied_is cfg w (event.Settle n) = settle_is cfg n w
applied_is cfg w (event.Crash x) = refl
applied_is cfg w (event.During x e keep) = refl

end_is : (cfg : ConfigParts) (es : List Event) (w : World) → end_from cfg w es ≡ fold (after cfg) w (basics_from cfg w es)
unfolding end_from basics_from
end_is cfg [] w = refl
end_is cfg (e ∷ es) w =
    end_is cfg es (applied cfg w e).0
    ∙ ap (λ (v : World). fold (after cfg) v (basics_from cfg v es)) (applied_is cfg w e)
    ∙ sym (fold-append (after cfg) w (basics cfg w e) (basics_from cfg (after_event cfg w e) es))

pub end_is_world : (cfg : ConfigParts) (es : List Event) → end_from cfg (first_world cfg) es ≡ world cfg (expand cfg es)
unfolding world
end_is_world cfg es = end_is cfg es (first_world cfg)
