use Rattle.std.proofs.Common.{◌≡◌, ◌-◌}
use Rattle.wire_core.specs.Reading.{commands_at, rest_of}
use Rattle.wire_core.proofs.value.skip_commands.Given as goal

abbrev pub invariant-loop : goal.invariant-loop
invariant-loop l = rest_of (commands_at (l.count - l.counter) l.rest) ≡ rest_of (commands_at l.count l.bytes)
