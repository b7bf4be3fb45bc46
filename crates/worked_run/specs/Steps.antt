-- What a line of a run says of a step.
use Rattle.std.specs.Prelude.{ℕ, List, [], ◌∷◌, map, Some}
use Rattle.wire_core.specs.Steps.{no_step}
use Rattle.wire_core.specs.declared.act.Act.{Act}
use Rattle.wire_core.specs.declared.address.Socket.{Socket}
use Rattle.wire_core.specs.declared.cause.DropCause.{DropCause}
use Rattle.wire_core.specs.declared.note.Note.TheVariants.{Dropped}
use Rattle.wire_core.specs.declared.outgoing.Outgoing.{Outgoing}
use Rattle.wire_core.specs.declared.step.Step.{Step}
use Rattle.worked_run.specs.Configs.{replica_at}

-- a datagram
abbrev pub sent : Socket → List ℕ → Outgoing
sent to bytes = record { to = to; bytes = bytes }

-- all five replicas, and those but the first
abbrev pub all_five : List ℕ
all_five = 0 ∷ 1 ∷ 2 ∷ 3 ∷ 4 ∷ []

abbrev pub four_others : List ℕ
four_others = 1 ∷ 2 ∷ 3 ∷ 4 ∷ []

-- the same to some replicas
abbrev pub to_each : List ℕ → List ℕ → List Outgoing
to_each replicas bytes = map (λ i. sent (replica_at i) bytes) replicas

-- a step that sends
abbrev pub sends : List Outgoing → Step
sends xs = record no_step { sends = xs }

-- with an entry
abbrev pub keeps : List ℕ → Step → Step
keeps body s = record s { entry = Some body }

-- with acts
abbrev pub does : List Act → Step → Step
does acts s = record s { acts = acts }

-- a step that drops what came
abbrev pub dropped : DropCause → Step
dropped cause = record no_step { notes = Dropped cause ∷ [] }

-- the same of each of some
abbrev pub each_is : Step → List ℕ → List Step
each_is s xs = map (λ i. s) xs
