use Rattle.std.proofs.Common.{◌≡◌, ◌++◌, drop}
use Rattle.agent_ports.specs.Flags.{unflagged}
use Rattle.agent_ports.proofs.flags.unflagged.Given as goal

abbrev pub invariant-loop-i : goal.invariant-loop-i
invariant-loop-i l = l.stay.items ++ unflagged (drop l.i l.flags) (drop l.i l.held) ≡ unflagged l.flags l.held
