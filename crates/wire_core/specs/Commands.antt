-- The commands of the log, and the one spelling of each list of them.
use Rattle.std.specs.Prelude.{ℕ, ◌+◌, ◌<◌, ◌^◌, ◌≤◌, List, [], ◌∷◌, ◌++◌, length}
use Rattle.std.specs.List.{flat_map}
use Rattle.wire_core.specs.declared.address.Ip4.{Ip4}
use Rattle.wire_core.specs.declared.command.MuxBoot.{MuxBoot}
use Rattle.wire_core.specs.Members.{Each}
use Rattle.wire_core.specs.Numbers.{number_bytes}

-- A command as the log means it. A lease is named by a number, the place of the Reserve that made it.
pub data LogCommand : Type 0 where
  Reserve : (agent boot : ℕ) → (machine : Ip4) → (seq : ℕ) → LogCommand
  Granted : (n : ℕ) → (muxes : List MuxBoot) → LogCommand
  Release : (n : ℕ) → LogCommand
  Freed : (n : ℕ) → LogCommand
  Up : (agent boot : ℕ) → LogCommand

abbrev pub mux_boot_bytes : MuxBoot → List ℕ
mux_boot_bytes m = number_bytes 2 m.mux ++ number_bytes 8 m.boot

-- a kind byte and the fields
abbrev pub command_bytes : LogCommand → List ℕ
command_bytes (Reserve agent boot machine seq) =
    1 ∷ [] ++ number_bytes 2 agent ++ number_bytes 8 boot ++ number_bytes 4 machine.0 ++ number_bytes 8 seq
command_bytes (Granted n muxes) = 2 ∷ [] ++ number_bytes 8 n ++ length muxes ∷ [] ++ flat_map mux_boot_bytes muxes
command_bytes (Release n) = 3 ∷ [] ++ number_bytes 8 n
command_bytes (Freed n) = 4 ∷ [] ++ number_bytes 8 n
command_bytes (Up agent boot) = 5 ∷ [] ++ number_bytes 2 agent ++ number_bytes 8 boot

-- a count byte and so many commands
abbrev pub value_bytes : List LogCommand → List ℕ
value_bytes commands = length commands ∷ flat_map command_bytes commands

-- mux numbers ascend strictly, from a least one on
abbrev pub AscendsFrom : ℕ → List MuxBoot → Type 0
AscendsFrom least [] = Unit {0}
AscendsFrom least (m ∷ ms) = (least ≤ m.mux) × AscendsFrom (m.mux + 1) ms

abbrev pub IsMuxBoot : MuxBoot → Type 0
IsMuxBoot m = (m.mux < 2 ^ 16) × (m.boot < 2 ^ 64)

-- 1 to 16 muxes with their boots, mux numbers strictly ascending
pub record AreNamed (muxes : List MuxBoot) : Type 0 where
  pub some : 0 < length muxes
  pub few : length muxes ≤ 16
  pub ascend : AscendsFrom 0 muxes
  pub fields : Each IsMuxBoot muxes

-- the fields are allowed, each within its width
abbrev pub IsAllowed : LogCommand → Type 0
IsAllowed (Reserve agent boot machine seq) = (agent < 2 ^ 16) × (boot < 2 ^ 64) × (machine.0 < 2 ^ 32) × (seq < 2 ^ 64)
IsAllowed (Granted n muxes) = (n < 2 ^ 64) × AreNamed muxes
IsAllowed (Release n) = n < 2 ^ 64
IsAllowed (Freed n) = n < 2 ^ 64
IsAllowed (Up agent boot) = (agent < 2 ^ 16) × (boot < 2 ^ 64)

-- 1 to 16 commands, each with allowed fields
pub record IsValue (commands : List LogCommand) : Type 0 where
  pub some : 0 < length commands
  pub few : length commands ≤ 16
  pub fields : Each IsAllowed commands
