-- What a node has done when it was served, by what its clock, its link and its disk tell.
use Rattle.std.specs.Prelude.{◌≡◌, ◌⊎◌, ◌<◌, ◌≤◌, ℕ, ◌+◌, ◌-◌, ◌^◌, min, List, [], ◌∷◌, ◌++◌, length, Ok, Option, Some, None, ⊤}
use Rattle.outside_io.specs.Disk.{History, Leaves}
use Rattle.outside_io.specs.Link.{Answer, Sent}
use Rattle.journal.specs.File.{bodies}
use Rattle.node_disk.specs.declared.fault.NodeFault.TheVariants as fault
use Rattle.node_core.specs.Opening.{OpensTo}
use Rattle.node_core.specs.Sending.{Handed}
use Rattle.node_core.specs.declared.node.Node.{Node}
use Rattle.node_run.specs.Turns.{Course, Reaches, Steps}
use Rattle.node_run.specs.declared.serving.ServeFault.{ServeFault}
use Rattle.node_run.specs.declared.serving.ServeFault.TheVariants.{Node as of_node, Link as of_link}
use Rattle.node_run.specs.declared.serving.Served.{Served}

-- ---- what is told

-- What was told since has P, where it is told.
abbrev pub Since : {A : Type 0} → Option (List A) → Option (List A) → (List A → Type 0) → Type 0
Since None new P = new ≡ None
Since (Some xs) None P = ⊤
Since {A} (Some xs) (Some ys) P = (since : List A) × ((ys ≡ xs ++ since) × P since)

-- so many more were told
abbrev pub Taken : {A : Type 0} → ℕ → Option (List A) → Option (List A) → Type 0
Taken n None new = new ≡ None
Taken n (Some xs) None = ⊤
Taken n (Some xs) (Some ys) = length ys ≡ length xs + n

-- a node between two steps: its core, its disk's file and the length of its journal in bytes
pub record State (C : Type 0) : Type 0 where
  pub core : C
  pub file : Option History
  pub length : ℕ

abbrev pub state_of : {C D : Type 0} → (D → Option History) → Node C D → State C
state_of history node =
    record { core = node.core; file = history node.journal.first; length = node.journal.length }

-- a node between two turns: what its clock and its link tell beside it
pub record Standing (C : Type 0) : Type 0 where
  pub times : Option (List ℕ)
  pub answers : Option (List Answer)
  pub sent : Option (List Sent)
  pub state : State C

-- ---- what is done

-- the journal's length with these entries
abbrev pub length_with_all : ℕ → List (List ℕ) → ℕ
length_with_all n [] = n
length_with_all n (entry ∷ entries) = length_with_all (n + length entry + 5) entries

-- a count, which stands still at the greatest number that there is
abbrev pub counted : ℕ → ℕ
counted n = min n (2 ^ 64 - 1)

-- From one state to another this course was done: its datagrams were handed over once each, in order, its entries are
-- in the file and in each image that a crash now leaves of it, and this is what is counted.
pub record HasDone {C : Type 0} (bound : ℕ) (before after : Option (List Sent)) (old new : State C)
    (course : Course C) (served : Served) : Type 0 where
  pub core : new.core ≡ course.core
  pub lost : ℕ
  pub few : lost ≤ length course.sends
  pub handed : Handed before after course.sends lost
  pub opens : (bs : List (List ℕ)) → OpensTo bound old.file bs → OpensTo bound new.file (bs ++ course.entries)
  pub end : new.length ≡ length_with_all old.length course.entries
  pub sent : served.sent ≡ counted (length course.sends - lost)
  pub failed : served.failed ≡ counted lost
  pub dropped : served.dropped ≡ counted course.drops

-- The course of these times and answers was done.
pub record Follows {C : Type 0} (step : Steps C) (bound : ℕ) (old new : Standing C) (served : Served) (times : List ℕ)
    (answers : List Answer) : Type 0 where
  pub course : Course C
  pub reached : Reaches step old.state.core times answers course
  pub done : HasDone bound old.sent new.sent old.state new.state course served

-- Where clock and link tell, the course of what they told was done.
abbrev pub Serves : {C : Type 0} → Steps C → ℕ → Standing C → Standing C → Served → Type 0
Serves step bound old new served =
    Since old.times new.times (λ times. Since old.answers new.answers (λ answers.
    Follows step bound old new served times answers))

-- ---- where it stops

-- Some or all of these times and answers lead here; at most one of each is left.
pub record ReachesFront {C : Type 0} (step : Steps C) (start : C) (times : List ℕ) (answers : List Answer)
    (course : Course C) : Type 0 where
  pub front_times : List ℕ
  pub last_time : List ℕ
  pub front_answers : List Answer
  pub last_answer : List Answer
  pub split_times : times ≡ front_times ++ last_time
  pub split_answers : answers ≡ front_answers ++ last_answer
  pub one_time : length last_time ≤ 1
  pub one_answer : length last_answer ≤ 1
  pub reached : Reaches step start front_times front_answers course

-- each crash now leaves a file that opens to one of two
abbrev pub LeavesEither : ℕ → Option History → List (List ℕ) → List (List ℕ) → Type 0
LeavesEither bound None bs cs = ⊤
LeavesEither bound (Some t) bs cs = Leaves (λ c. (bodies bound c ≡ Ok bs) ⊎ (bodies bound c ≡ Ok cs)) t.now

-- the entry of the step that wasn't done would pass the journal's bound
abbrev pub PassesBound : (bound start : ℕ) (before after : List (List ℕ)) → ServeFault → Type 0
PassesBound bound start before after (of_node (fault.Full n body)) =
    (n ≡ length_with_all start before) × (n + body + 5 ≡ length_with_all start after) × (bound < n + body + 5)
PassesBound bound start before after (of_node fault.Disk) = ⊤
PassesBound bound start before after (of_node fault.NoMemory) = ⊤
PassesBound bound start before after (of_node (fault.Damaged second offset)) = ⊥
PassesBound bound start before after (of_node (fault.WrongDisk entry)) = ⊥
PassesBound bound start before after (of_node (fault.Spent boot)) = ⊥
PassesBound bound start before after of_link = ⊤

-- All that was told leads to one course; it was done but for its last turn, of which nothing was handed over, and each
-- crash now leaves the entries before that turn, or those after it.
pub record StopsIn {C : Type 0} (step : Steps C) (bound : ℕ) (old new : Standing C) (e : ServeFault) (times : List ℕ)
    (answers : List Answer) : Type 0 where
  pub before : Course C
  pub after : Course C
  pub front : ReachesFront step old.state.core times answers before
  pub whole : Reaches step old.state.core times answers after
  pub lost : ℕ
  pub handed : Handed old.sent new.sent before.sends lost
  pub leaves : (bs : List (List ℕ)) → OpensTo bound old.state.file bs
      → LeavesEither bound new.state.file (bs ++ before.entries) (bs ++ after.entries)
  pub full : PassesBound bound old.state.length before.entries after.entries e

-- the same, where clock and link tell
abbrev pub Stops : {C : Type 0} → Steps C → ℕ → Standing C → Standing C → ServeFault → Type 0
Stops step bound old new e =
    Since old.times new.times (λ times. Since old.answers new.answers (λ answers.
    StopsIn step bound old new e times answers))
