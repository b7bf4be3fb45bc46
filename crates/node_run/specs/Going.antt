-- Between two turns: what was done so far, and what a step adds to it.
use Rattle.std.specs.Prelude.{◌≡◌, ◌≤◌, ℕ, ◌+◌, ◌-◌, ◌^◌, min, List, length, Option}
use Rattle.wire_core.specs.declared.step.Step.{Step}
use Rattle.outside_io.specs.Disk.{LeavesOnly}
use Rattle.outside_io.specs.Link.{Answer, Sent}
use Rattle.journal.specs.Durable.{file_in}
use Rattle.node_disk.specs.Keeping.{IsKept, LeavesKept, ReadsKept, length_with}
use Rattle.node_core.specs.Handling.{HandleFails}
use Rattle.node_core.specs.Sending.{Handed}
use Rattle.node_run.specs.Timing.{Timing}
use Rattle.node_run.specs.Turns.{Steps, drops_in}
use Rattle.node_run.specs.Serving.{Follows, Since, Standing, State, Stops}
use Rattle.node_run.specs.declared.serving.ServeFault.{ServeFault}
use Rattle.node_run.specs.declared.serving.ServeFault.TheVariants.{Node as of_node, Link as of_link}
use Rattle.node_run.specs.declared.serving.Served.{Served}

-- ---- one step

-- A step was done, and counted.
pub record Handled {C : Type 0} (bound : ℕ) (done : C × Step) (before after : Option (List Sent)) (old new : State C)
    (served now : Served) : Type 0 where
  pub core : new.core ≡ done.0
  pub lost : ℕ
  pub few : lost ≤ length done.1.sends
  pub handed : Handed before after done.1.sends lost
  pub reads : ReadsKept bound done.1.entry old.file new.file
  pub kept : LeavesKept bound done.1.entry old.file new.file
  pub moments : LeavesOnly old.file new.file (IsKept bound (file_in old.file) done.1.entry)
  pub end : new.length ≡ length_with old.length done.1.entry
  pub sent : now.sent ≡ min (served.sent + (length done.1.sends - lost)) (2 ^ 64 - 1)
  pub failed : now.failed ≡ min (served.failed + lost) (2 ^ 64 - 1)
  pub dropped : now.dropped ≡ min (served.dropped + drops_in done.1.notes) (2 ^ 64 - 1)

abbrev pub FailsBy : (bound end before now : ℕ) → Option (List ℕ) → ServeFault → Type 0
FailsBy bound end before now entry (of_node fault) = HandleFails bound end before now entry fault
FailsBy bound end before now entry of_link = ⊥

-- A step wasn't done: nothing was handed over, and its entry may be on the disk or not.
pub record NotHandled {C : Type 0} (bound : ℕ) (done : C × Step) (before after : Option (List Sent))
    (old new : State C) (e : ServeFault) : Type 0 where
  pub silent : after ≡ before
  pub moments : LeavesOnly old.file new.file (IsKept bound (file_in old.file) done.1.entry)
  pub faults : ℕ
  pub faults_now : ℕ
  pub fails : FailsBy bound old.length faults faults_now done.1.entry e

-- ---- some turns

-- the course that was done, and its time
pub record GoesTo {C : Type 0} (step : Steps C) (bound : ℕ) (old new : Standing C) (timing : Timing) (served : Served)
    (times : List ℕ) (answers : List Answer) : Type 0 where
  pub run : Follows step bound old new served times answers
  pub time : timing ≡ run.course.timing

abbrev pub Going : {C : Type 0} → Steps C → ℕ → Standing C → Standing C → Timing → Served → Type 0
Going step bound old new timing served =
    Since old.times new.times (λ times. Since old.answers new.answers (λ answers.
    GoesTo step bound old new timing served times answers))

-- a turn more
abbrev pub GoesOn : {C : Type 0} → Steps C → ℕ → Standing C → Timing → Served → Standing C → Timing → Served → Type 0
GoesOn {C} step bound mid timing served new later more =
    (old : Standing C) → Going step bound old mid timing served → Going step bound old new later more

-- a turn that fails
abbrev pub StopsAt : {C : Type 0} → Steps C → ℕ → Standing C → Timing → Served → Standing C → ServeFault → Type 0
StopsAt {C} step bound mid timing served new e =
    (old : Standing C) → Going step bound old mid timing served → Stops step bound old new e
