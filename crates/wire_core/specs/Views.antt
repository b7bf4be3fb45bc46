-- What the commands of the code mean.
use Rattle.std.specs.Prelude.{ℕ, zero, suc, ◌≡◌, ◌/◌, ◌%◌, List, [], ◌∷◌, length, drop}
use Rattle.byteorder.specs.Endian.{big_number}
use Rattle.wire_core.specs.declared.command.Command.{Command}
use Rattle.wire_core.specs.declared.command.Command.TheVariants as code
use Rattle.wire_core.specs.declared.command.MuxBoot.{MuxBoot}
use Rattle.wire_core.specs.Commands.{LogCommand, Reserve, Granted, Release, Freed, Up, IsAllowed}

-- so many muxes and boots in bytes, ten bytes each
unfoldable pub mux_boots : ℕ → List ℕ → List MuxBoot
mux_boots zero bytes = []
mux_boots (suc count) bytes =
    record { mux = big_number 2 bytes; boot = big_number 8 (drop 2 bytes) } ∷ mux_boots count (drop 10 bytes)

abbrev pub pairs_of : List ℕ → List MuxBoot
pairs_of bytes = mux_boots (length bytes / 10) bytes

abbrev pub command_of : Command → LogCommand
command_of (code.Reserve agent boot machine seq) = Reserve agent boot machine seq
command_of (code.Granted n pairs) = Granted n (pairs_of pairs.now)
command_of (code.Release n) = Release n
command_of (code.Freed n) = Freed n
command_of (code.Up agent boot) = Up agent boot

-- the pairs are whole
abbrev pub HasWholePairs : Command → Type 0
HasWholePairs (code.Reserve agent boot machine seq) = Unit {0}
HasWholePairs (code.Granted n pairs) = length pairs.now % 10 ≡ 0
HasWholePairs (code.Release n) = Unit {0}
HasWholePairs (code.Freed n) = Unit {0}
HasWholePairs (code.Up agent boot) = Unit {0}

-- the command has a spelling
abbrev pub IsWritable : Command → Type 0
IsWritable c = IsAllowed (command_of c) × HasWholePairs c
