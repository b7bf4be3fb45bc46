-- Every moment of a schedule is a world of basic events that a schedule may name, so it is safe.
use Rattle.std.proofs.Common.{◌≡◌, refl, sym, subst, ℕ, zero, suc, List, [], ◌∷◌, Option, Some, None}
use Rattle.std.specs.Prelude.{Ok, take}
use Rattle.wire_core.specs.Members.{Each}
use Rattle.vip_config.specs.declared.parts.ConfigParts.{ConfigParts}
use Rattle.lease_spec.proofs.MemberLaws.{each_append}
use Rattle.schedule_text.proofs.Honest.{none_forged}
use Rattle.schedule_text.specs.Laws.{IsFromOutside, IsHonest}
use Rattle.schedule_text.specs.Schedule.{schedule_of}
use Rattle.schedule_text.specs.declared.event.Event.{Event}
use Rattle.schedule_text.specs.declared.event.Event.TheVariants as event
use Rattle.schedule_text.specs.declared.event.Single.{Single}
use Rattle.schedule_text.specs.declared.event.Single.TheVariants as single
use Rattle.world_spec.proofs.Settles.{end_is_world}
use Rattle.world_spec.specs.Events.{AreNamed, Basic, Does, IsNamed, IsNamedAt, after, after_event, basics, basics_from}
use Rattle.world_spec.specs.Events.{expand, settled, settled_by, world}
use Rattle.world_spec.specs.Facts.{Reached}
use Rattle.world_spec.specs.Transcript.{end_from}
use Rattle.world_spec.specs.World.{World, first_world, least_waiting}
use Rattle.world_laws.proofs.Ends.{conns_apart, held_once}
use Rattle.world_laws.proofs.KeptLeases.{grants_kept}
use Rattle.world_laws.proofs.Leased.{held_are_leased}
use Rattle.world_laws.proofs.ReplyLaws.{replies_reach}
use Rattle.world_laws.specs.Hearing.{IsSound}
use Rattle.world_laws.specs.Safety.{ConnsAreApart}
use Rattle.world_safety.specs.Safety.{IsAlwaysSafe, IsSafe}

-- ---- a world that is reached

pub safe_world : (cfg : ConfigParts) → IsSound cfg → (bs : List Basic) → AreNamed cfg bs → IsSafe cfg (world cfg bs)
safe_world cfg sound bs named =
    let reached : Reached cfg (world cfg bs) = record { events = bs; named = named; is = refl } in
    let apart : ConnsAreApart (world cfg bs) = conns_apart cfg sound (world cfg bs) reached in
    record {
      ranges = held_once cfg sound (world cfg bs) reached;
      outer = apart.outer;
      inner = apart.inner;
      through = apart.through;
      leased = held_are_leased cfg sound (world cfg bs) reached;
      replies = replies_reach cfg sound (world cfg bs) reached;
      kept = grants_kept cfg sound (world cfg bs) reached;
    }

-- ---- the basic events of a schedule

named_at : (cfg : ConfigParts) (e : Single) → IsFromOutside cfg e → IsNamedAt cfg e
named_at cfg (single.Deliver k) h = tt
named_at cfg (single.Inject x from bytes) h = h
named_at cfg (single.Tick x now) h = tt
named_at cfg (single.Restart x) h = tt

settled_named : (cfg : ConfigParts) (n : ℕ) (w : World) → AreNamed cfg (settled cfg n w)
unfolding settled
settled_named cfg zero w = tt
settled_named cfg (suc n) w = by (settled_named cfg n) (least_waiting w)
  where
    by : ((v : World) → AreNamed cfg (settled cfg n v)) → (o : Option ℕ)
        → AreNamed cfg (settled_by cfg w (settled cfg n) o)
    by more None = tt
    by more (Some k) = (tt, more (after cfg w (Does (single.Deliver k))))

basics_named : (cfg : ConfigParts) (w : World) (e : Event) → IsHonest cfg e → AreNamed cfg (basics cfg w e)
basics_named cfg w (event.Single e) h = (named_at cfg e h, tt)
basics_named cfg w (event.Settle n) h = settled_named cfg n w
basics_named cfg w (event.Crash x) h = (tt, tt)
basics_named cfg w (event.During x e keep) h = (named_at cfg e h, tt)

all_named : (cfg : ConfigParts) (events : List Event) (w : World) → Each (IsHonest cfg) events
    → AreNamed cfg (basics_from cfg w events)
unfolding basics_from
all_named cfg [] w h = tt
all_named cfg (e ∷ es) w h =
    each_append (IsNamed cfg) (basics cfg w e) (basics_from cfg (after_event cfg w e) es)
    (basics_named cfg w e h.0) (all_named cfg es (after_event cfg w e) h.1)

each_take : {X : Type 0} (P : X → Type 0) (n : ℕ) (xs : List X) → Each P xs → Each P (take n xs)
each_take P zero xs h = tt
each_take P (suc n) [] h = tt
each_take P (suc n) (x ∷ xs) h = (h.0, each_take P n xs h.1)

-- ---- at every moment

pub always_safe : (cfg : ConfigParts) → IsSound cfg → (events : List Event) → Each (IsHonest cfg) events
    → IsAlwaysSafe cfg events
always_safe cfg sound events honest n =
    safe_world cfg sound (take n (expand cfg events))
    (each_take (IsNamed cfg) n (expand cfg events) (all_named cfg events (first_world cfg) honest))

-- the basic events of a schedule that was read are ones that a schedule may name
pub read_names : (cfg : ConfigParts) (text : List ℕ) (events : List Event) → schedule_of cfg text ≡ Ok events
    → AreNamed cfg (expand cfg events)
read_names cfg text events read = all_named cfg events (first_world cfg) (none_forged cfg text events read)

pub read_is_safe : (cfg : ConfigParts) → IsSound cfg → (text : List ℕ) (events : List Event)
    → schedule_of cfg text ≡ Ok events → IsAlwaysSafe cfg events
read_is_safe cfg sound text events read = always_safe cfg sound events (none_forged cfg text events read)

pub end_is_safe : (cfg : ConfigParts) → IsSound cfg → (events : List Event) → Each (IsHonest cfg) events
    → IsSafe cfg (end_from cfg (first_world cfg) events)
end_is_safe cfg sound events honest =
    subst (IsSafe cfg) (sym (end_is_world cfg events))
    (safe_world cfg sound (expand cfg events) (all_named cfg events (first_world cfg) honest))
