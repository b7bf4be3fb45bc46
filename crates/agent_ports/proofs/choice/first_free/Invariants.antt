use Rattle.std.proofs.Common.{◌≡◌, drop}
use Rattle.agent_spec.specs.Ranges.{first_unused}
use Rattle.agent_ports.specs.Full.{is_taken}
use Rattle.agent_ports.specs.Leases.{lease_ports}
use Rattle.agent_ports.proofs.choice.first_free.Given as goal

abbrev pub invariant-loop-lease : goal.invariant-loop-lease
invariant-loop-lease l =
    first_unused (is_taken l.flows l.end) (lease_ports (drop l.lease-index l.leases))
    ≡ first_unused (is_taken l.flows l.end) (lease_ports l.leases)
