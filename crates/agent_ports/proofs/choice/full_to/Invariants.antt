use Rattle.std.proofs.Common.{◌≤◌, ◌-◌, length}
use Rattle.agent_ports.specs.Full.{FrontFull}
use Rattle.agent_ports.proofs.choice.full_to.Given as goal

abbrev pub invariant-loop-to : goal.invariant-loop-to
invariant-loop-to l = record {
  within : l.to ≤ length l.leases;
  full : FrontFull l.flows l.end l.leases l.to;
}

abbrev pub decreases-loop-to : goal.decreases-loop-to
decreases-loop-to l = length l.leases - l.to
