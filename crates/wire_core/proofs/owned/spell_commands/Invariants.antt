use Rattle.std.proofs.Common.{◌≡◌, ◌∷◌, take, map, length}
use Rattle.std.specs.List.{flat_map}
use Rattle.wire_core.specs.Commands.{command_bytes}
use Rattle.wire_core.specs.Views.{command_of}
use Rattle.wire_core.proofs.owned.spell_commands.Given as goal

abbrev pub invariant-loop-command : goal.invariant-loop-command
invariant-loop-command l =
    l.bytes.items ≡ length l.commands ∷ flat_map command_bytes (map command_of (take l.command-index l.commands))
