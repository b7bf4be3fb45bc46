-- What the code writes and answers, by what a text says.
use Rattle.std.specs.Prelude.{◌≡◌, ℕ, List, take, Option, None, Result, Ok, Err, IfOk, IsOk, IsOkAnd, IsErr, IsSome, String, string_bytes, ⊤}
use Rattle.std.specs.Io.KnownBytes.{Appends}
use Rattle.config_text.specs.Faults.{json, field}
use Rattle.outside_io.specs.Faults.{Rose}
use Rattle.transcript_summary.specs.Summary.{counts_of}
use Rattle.transcript_summary.specs.declared.kinds.Counts.{Counts}
use Rattle.world_model.specs.Runs.{Front}
use Rattle.world_model.specs.TableOverflows.{run_overflow}
use Rattle.world_spec.specs.Transcript.{transcript_text}
use Rattle.node_schedule.specs.Schedule.{NoSchedule, Scheduled, bad_config, bad_line}
use Rattle.node_schedule.specs.declared.fault.ScheduleFault.{ScheduleFault}
use Rattle.node_schedule.specs.declared.fault.ScheduleFault.TheVariants as fault

-- ---- journals

-- some entry of the run finds no room in its node's journal
abbrev pub Overflows : Scheduled → Type 0
Overflows s = IsSome (run_overflow s.0 s.1)

-- each entry of the run finds room
abbrev pub HasRoom : Scheduled → Type 0
HasRoom s = run_overflow s.0 s.1 ≡ None

-- ---- faults

-- A fault is why the text is no schedule; or a journal of its run is full, or the sink has failed. Want of memory may
-- always come.
abbrev pub Fails : ScheduleFault → (failed : Type 0) → Result Scheduled NoSchedule → Type 0
Fails fault.Json failed s = s ≡ Err (bad_config json)
Fails (fault.Field path) failed s = s ≡ Err (bad_config (field (string_bytes path)))
Fails (fault.Line n) failed s = s ≡ Err (bad_line n)
Fails fault.Full failed s = IsOkAnd s Overflows
Fails fault.Write failed s = IsOk s × failed
Fails fault.NoMemory failed s = ⊤

-- ---- what is read

-- this is what the text says, or why it says nothing
abbrev pub Says : Result Scheduled ScheduleFault → Result Scheduled NoSchedule → Type 0
Says (Ok s) wanted = wanted ≡ Ok s
Says (Err fault) wanted = Fails fault ⊥ wanted

-- ---- what is written

-- All lines are written, each entry of the run found room; or this is why not.
abbrev pub Writes : {T : Type 0} → (before after : Option (List ℕ)) → (faults faults_now : ℕ)
    → Result T ScheduleFault → Result Scheduled NoSchedule → Type 0
Writes before after faults faults_now (Ok x) s =
    IsOkAnd s (λ s. HasRoom s × Appends before after (transcript_text s.0 s.1))
Writes before after faults faults_now (Err fault) s = Fails fault (Rose faults faults_now) s

-- a front of the lines is written
abbrev pub WritesFront : (before after : Option (List ℕ)) → Result Scheduled NoSchedule → Type 0
WritesFront before after s = IfOk s (λ s. Front before after (transcript_text s.0 s.1))

-- ---- what is counted

-- the lines are counted, or this is why not
abbrev pub CountsLines : Result Counts ScheduleFault → Result Scheduled NoSchedule → Type 0
CountsLines (Ok counts) s = IsOkAnd s (λ s. HasRoom s × (counts ≡ counts_of (transcript_text s.0 s.1)))
CountsLines (Err fault) s = Fails fault ⊥ s
