use Rattle.std.proofs.Common.{◌≡◌, ◌++◌, drop}
use Rattle.agent_ports.specs.Flags.{flagged}
use Rattle.agent_ports.specs.Ports.{numbers}
use Rattle.agent_ports.proofs.flags.flagged_numbers.Given as goal

abbrev pub invariant-loop-i : goal.invariant-loop-i
invariant-loop-i l =
    l.given.items ++ numbers (flagged (drop l.i l.flags) (drop l.i l.held)) ≡ numbers (flagged l.flags l.held)
