use Rattle.std.proofs.Common.{◌≡◌, ◌+◌, ◌<◌, ◌≤◌, ℕ, true}
use Rattle.agent_ports.specs.Full.{carries}
use Rattle.agent_ports.proofs.choice.is_full.Given as goal

abbrev pub invariant-loop-i : goal.invariant-loop-i
invariant-loop-i l = (j : ℕ) → 8 ≤ j + l.i → j < 8 → carries l.flows l.end l.lease j ≡ true
