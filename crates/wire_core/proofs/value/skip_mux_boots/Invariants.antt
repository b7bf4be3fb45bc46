use Rattle.std.proofs.Common.{◌≡◌, ◌-◌}
use Rattle.wire_core.specs.Reading.{mux_boots_at, rest_of}
use Rattle.wire_core.proofs.value.skip_mux_boots.Given as goal

abbrev pub invariant-loop : goal.invariant-loop
invariant-loop l =
    rest_of (mux_boots_at (l.count - l.counter) l.least l.rest) ≡ rest_of (mux_boots_at l.count 0 l.bytes)
