-- A run that is written step by step: what is left of it, and what a sink has of it.
use Rattle.std.specs.Prelude.{◌≡◌, ℕ, ◌+◌, List, [], ◌∷◌, ◌++◌, take, drop, Result, Ok, Err, Option, Some, None, ⊤}
use Rattle.std.specs.List.{flat_map}
use Rattle.std.specs.Io.KnownBytes.{Appends}
use Rattle.vip_config.specs.declared.parts.ConfigParts.{ConfigParts}
use Rattle.outside_io.specs.Faults.{Rose}
use Rattle.schedule_text.specs.Transcript.{printed_line}
use Rattle.schedule_text.specs.declared.event.Event.{Event}
use Rattle.schedule_text.specs.declared.event.Event.TheVariants as event
use Rattle.schedule_text.specs.declared.line.Line.{Line}
use Rattle.world_nodes.specs.Overflows.{Overflow}
use Rattle.world_nodes.specs.Sites.{Deciding, Opening}
use Rattle.world_nodes.specs.declared.fault.WorldFault.{WorldFault}
use Rattle.world_nodes.specs.declared.fault.WorldFault.TheVariants as world_fault
use Rattle.world_model.specs.Firsts.{first_world}
use Rattle.world_model.specs.Overflows.{first_of, run_overflow, settle_overflow}
use Rattle.world_model.specs.World.{WorldState, lines_from, settle}
use Rattle.world_model.specs.declared.advancing.Progress.{Progress}
use Rattle.world_model.specs.declared.fault.ReplayFault.{ReplayFault}
use Rattle.world_model.specs.declared.fault.ReplayFault.TheVariants.{Full, Write, NoMemory}

-- ---- the whole

-- these lines in bytes
abbrev pub text_of : ConfigParts → List Line → List ℕ
text_of cfg lines = flat_map (printed_line cfg) lines

-- What a world of real nodes writes of these events, from empty disks on.
abbrev pub run_text : {C : Type 0} → Deciding C → Opening C → ConfigParts → List Event → List ℕ
run_text step recover cfg es = text_of cfg (lines_from step recover (first_world recover cfg) es)

-- ---- what is left

-- The text that is left of a run: that of so many deliveries of a settle, and that of these events.
abbrev pub text_left : {C : Type 0} → Deciding C → Opening C → ConfigParts → WorldState C → ℕ → List Event → List ℕ
text_left step recover cfg w n es =
    text_of cfg (settle step n w).1 ++ text_of cfg (lines_from step recover (settle step n w).0 es)

-- and the first in it that finds no room
abbrev pub overflow_left : {C : Type 0} → Deciding C → Opening C → WorldState C → ℕ → List Event → Option Overflow
overflow_left step recover w n es =
    first_of (settle_overflow step n w) (run_overflow step recover (settle step n w).0 es)

-- the deliveries that an event is a settle of
abbrev pub deliveries : Event → Option ℕ
deliveries (event.Single e) = None
deliveries (event.Settle n) = Some n
deliveries (event.Crash x) = None
deliveries (event.During x e keep) = None

-- the most steps that an event takes
abbrev pub steps_in : Event → ℕ
steps_in (event.Single e) = 1
steps_in (event.Settle n) = n + 1
steps_in (event.Crash x) = 1
steps_in (event.During x e keep) = 1

abbrev pub all_steps : List Event → ℕ
all_steps [] = 0
all_steps (e ∷ es) = steps_in e + all_steps es

-- the most steps that are left
abbrev pub steps_left : Progress → List Event → ℕ
steps_left p es = p.left + all_steps (drop p.at es)

-- ---- what a sink has

-- a front of this text was written
abbrev pub Front : Option (List ℕ) → Option (List ℕ) → List ℕ → Type 0
Front old now text = (n : ℕ) × Appends old now (take n text)

-- A front of a text was written, and this is what is left of it.
pub record Passed (old now : Option (List ℕ)) (left text : List ℕ) : Type 0 where
  pub written : List ℕ
  pub appended : Appends old now written
  pub whole : written ++ left ≡ text

-- ---- what is answered

-- a world's fault as a replay's
abbrev pub replay_fault : WorldFault → ReplayFault
replay_fault (world_fault.Full length body) = Full length body
replay_fault world_fault.NoMemory = NoMemory

-- Full exactly where there is an overflow, by its numbers. A fault of the sink or want of memory may end it before.
abbrev pub ReplayFulls : {T : Type 0} → Option Overflow → Result T ReplayFault → Type 0
ReplayFulls o (Ok x) = o ≡ None
ReplayFulls o (Err (Full length body)) = o ≡ Some (record { length = length; body = body })
ReplayFulls o (Err Write) = ⊤
ReplayFulls o (Err NoMemory) = ⊤

-- Write where the sink's count rose alone.
abbrev pub WritesFail : {T : Type 0} → (before now : ℕ) → Result T ReplayFault → Type 0
WritesFail before now (Ok x) = ⊤
WritesFail before now (Err (Full length body)) = ⊤
WritesFail before now (Err Write) = Rose before now
WritesFail before now (Err NoMemory) = ⊤
