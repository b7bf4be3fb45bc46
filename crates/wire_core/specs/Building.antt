-- A value in the making: a count byte, and the spelling of each command that was added.
use Rattle.std.specs.Prelude.{◌≡◌, ℕ, ◌≤◌, List, drop, length, slice_index}
use Rattle.wire_core.specs.Members.{Each}
use Rattle.wire_core.specs.Commands.{LogCommand, IsAllowed, value_bytes}
use Rattle.wire_core.specs.Reading.{commands_at, commands_of}

-- the commands that were added
abbrev pub added : List ℕ → List LogCommand
added bytes = commands_of (commands_at (slice_index bytes 0) (drop 1 bytes))

-- at most 16, each with allowed fields, and nothing else
pub record IsBuilt (bytes : List ℕ) : Type 0 where
  pub spelled : bytes ≡ value_bytes (added bytes)
  pub few : length (added bytes) ≤ 16
  pub fields : Each IsAllowed (added bytes)
