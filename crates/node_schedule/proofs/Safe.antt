-- The lines behind a configuration that keeps its rules name a safe run.
use Rattle.std.proofs.Common.{◌≡◌, ℕ, List, Some, Result, Ok, Err, refl}
use Rattle.vip_config.specs.declared.parts.ConfigParts.{ConfigParts}
use Rattle.schedule_text.specs.Schedule.{schedule_of}
use Rattle.schedule_text.specs.declared.event.Event.{Event}
use Rattle.world_laws.specs.Hearing.{IsSound}
use Rattle.world_safety.specs.Safety.{IsAlwaysSafe, ShowsTheLog}
use Rattle.node_schedule.specs.Safety.{IsSafeRun}
use Rattle.node_schedule.specs.Schedule.{under, with_events}

-- what is read under such a configuration is safe, and shows what the log did
abbrev pub Reads : Type 0
Reads = (cfg : ConfigParts) → IsSound cfg → (text : List ℕ) (events : List Event) → schedule_of cfg text ≡ Ok events
    → IsAlwaysSafe cfg events × ShowsTheLog cfg events

by_events : Reads → (cfg : ConfigParts) → IsSound cfg → (text : List ℕ) (r : Result (List Event) ℕ)
    → schedule_of cfg text ≡ r → IsSafeRun (with_events cfg r)
by_events reads cfg sound text (Ok events) e = reads cfg sound text events e
by_events reads cfg sound text (Err n) e = tt

pub safe_lines : Reads → (cfg : ConfigParts) → IsSound cfg → (text : List ℕ) → IsSafeRun (under cfg (Some text))
safe_lines reads cfg sound text = by_events reads cfg sound text (schedule_of cfg text) refl
