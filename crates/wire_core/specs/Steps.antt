-- What one input makes a node do, as far as it got.
use Rattle.std.specs.Prelude.{ℕ, List, [], ◌∷◌, ◌++◌, Option, Some, None}
use Rattle.wire_core.specs.declared.act.Act.{Act}
use Rattle.wire_core.specs.declared.note.Note.{Note}
use Rattle.wire_core.specs.declared.outgoing.Outgoing.{Outgoing}
use Rattle.wire_core.specs.declared.step.Step.{Step}

-- the first of the two that is there
abbrev pub first_of : {X : Type 0} → Option X → Option X → Option X
first_of None other = other
first_of (Some x) other = Some x

-- nothing so far
abbrev pub no_step : Step
no_step = record { entry = None; acts = []; notes = []; sends = [] }

-- the entry, unless there is one
abbrev pub with_entry : Option (List ℕ) → Step → Step
with_entry entry s = record s { entry = first_of s.entry entry }

-- one act more
abbrev pub with_act : Act → Step → Step
with_act act s = record s { acts = s.acts ++ act ∷ [] }

-- one note more
abbrev pub with_note : Note → Step → Step
with_note note s = record s { notes = s.notes ++ note ∷ [] }

-- one datagram more
abbrev pub with_send : Outgoing → Step → Step
with_send send s = record s { sends = s.sends ++ send ∷ [] }
