-- The place of each command in the log.
use Rattle.std.specs.Prelude.{ℕ, ◌+◌, ◌*◌, ◌<◌, ◌≤◌, List, [], ◌∷◌, ◌++◌, length}
use Rattle.wire_core.specs.Members.{Each}
use Rattle.wire_core.specs.Commands.{LogCommand}

pub record Placed : Type 0 where
  pub place : ℕ
  pub command : LogCommand

-- The commands of one value, from a place on.
abbrev pub placed : ℕ → List LogCommand → List Placed
placed place [] = []
placed place (c ∷ cs) = record { place = place; command = c } ∷ placed (place + 1) cs

-- The commands of a slot: the place of command i of slot s is 16 s + i + 1.
abbrev pub slot_commands : ℕ → List LogCommand → List Placed
slot_commands slot value = placed (16 * slot + 1) value

-- The commands of a log, from a slot on.
abbrev pub commands_from : ℕ → List (List LogCommand) → List Placed
commands_from slot [] = []
commands_from slot (value ∷ values) = slot_commands slot value ++ commands_from (slot + 1) values

abbrev pub commands : List (List LogCommand) → List Placed
commands values = commands_from 0 values

-- each value has at most 16 commands
abbrev pub AreShort : List (List LogCommand) → Type 0
AreShort values = Each (λ value. length value ≤ 16) values

-- places rise along the list
abbrev pub Ascends : List Placed → Type 0
Ascends [] = Unit {0}
Ascends (c ∷ cs) = Each (λ d. c.place < d.place) cs × Ascends cs
