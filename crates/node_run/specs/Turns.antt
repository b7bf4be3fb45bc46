-- What a node does in its turns, by the times that its clock told and the answers of its link, which only some turns
-- use.
use Rattle.std.specs.Prelude.{◌≡◌, ℕ, ◌+◌, Bool, true, false, if◌then◌else◌, List, [], ◌∷◌, ◌++◌, Ok, Err, Option, Some, None}
use Rattle.std.specs.List.{count_by}
use Rattle.wire_core.specs.declared.note.Note.{Note}
use Rattle.wire_core.specs.declared.note.Note.TheVariants.{Queued, Dropped}
use Rattle.wire_core.specs.declared.outgoing.Outgoing.{Outgoing}
use Rattle.wire_core.specs.declared.step.Step.{Step}
use Rattle.outside_io.specs.Link.{Answer}
use Rattle.node_spec.specs.Turns.{Input, Arrived, Ticked}
use Rattle.node_run.specs.Timing.{Timing, timed}

-- what an input makes of a core, and its step
abbrev pub Steps : Type 0 → Type 0
Steps C = C → Input → C × Step

-- What was done so far: the core, the time, the entries that were made durable and the datagrams that were handed over,
-- each in order, and how often something was dropped.
pub record Course (C : Type 0) : Type 0 where
  pub core : C
  pub timing : Timing
  pub entries : List (List ℕ)
  pub sends : List Outgoing
  pub drops : ℕ

-- nothing is done yet
abbrev pub begun : {C : Type 0} → C → Course C
begun core = record { core = core; timing = record { time = 0; tick = None }; entries = []; sends = []; drops = 0 }

abbrev pub is_drop : Note → Bool
is_drop (Dropped cause) = true
is_drop (Queued machine count) = false

-- how many drops are among the notes
abbrev pub drops_in : List Note → ℕ
drops_in notes = count_by is_drop notes

-- the entry of a step
abbrev pub entry_list : Option (List ℕ) → List (List ℕ)
entry_list None = []
entry_list (Some entry) = entry ∷ []

-- the step is done
abbrev pub after_step : {C : Type 0} → Course C → C × Step → Course C
after_step c done = record {
  core = done.0;
  timing = c.timing;
  entries = c.entries ++ entry_list done.1.entry;
  sends = c.sends ++ done.1.sends;
  drops = c.drops + drops_in done.1.notes;
}

-- an input is handled
abbrev pub handled : {C : Type 0} → Steps C → Input → Course C → Course C
handled step input c = after_step c (step c.core input)

-- what came is handled; where nothing came, or `next` failed, nothing is done
abbrev pub took : {C : Type 0} → Steps C → Answer → Course C → Course C
took step (Ok (Some received)) c = handled step (Arrived received.from received.bytes) c
took step (Ok None) c = c
took step (Err failed) c = c

-- the first of the answers is taken
abbrev pub took_next : {C : Type 0} → Steps C → Course C → List Answer → Course C × List Answer
took_next step c [] = (c, [])
took_next step c (a ∷ answers) = (took step a c, answers)

abbrev pub at : {C : Type 0} → Timing → Course C → Course C
at timing c = record c { timing = timing }

-- a turn is a tick where one is due, and else takes an answer
abbrev pub turn_by : {C : Type 0} → Steps C → Course C → List Answer → Timing → Bool → Course C × List Answer
turn_by step c answers timing due =
    if due then (handled step (Ticked timing.time) (at timing c), answers) else took_next step (at timing c) answers

-- A turn at the time that the clock tells, and the answers that are left after it.
abbrev pub turn : {C : Type 0} → Steps C → Course C × List Answer → ℕ → Course C × List Answer
turn step r time = turn_by step r.0 r.1 (timed r.0.timing time).0 (timed r.0.timing time).1

-- one turn for each time
abbrev pub turns : {C : Type 0} → Steps C → Course C × List Answer → List ℕ → Course C × List Answer
turns step r [] = r
turns step r (time ∷ times) = turns step (turn step r time) times

-- From this core, these times and these answers lead to this course, whatever answers come later.
pub record Reaches {C : Type 0} (step : Steps C) (start : C) (times : List ℕ) (answers : List Answer)
    (course : Course C) : Type 0 where
  pub each : (more : List Answer) → turns step (begun start, answers ++ more) times ≡ (course, more)
