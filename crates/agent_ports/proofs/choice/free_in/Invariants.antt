use Rattle.std.proofs.Common.{◌≡◌, drop, map}
use Rattle.agent_spec.specs.Ranges.{first_unused, places}
use Rattle.agent_ports.specs.Full.{is_taken}
use Rattle.agent_ports.specs.Leases.{port_at}
use Rattle.agent_ports.proofs.choice.free_in.Given as goal

abbrev pub invariant-loop-i : goal.invariant-loop-i
invariant-loop-i l =
    first_unused (is_taken l.flows l.end) (map (port_at l.lease) (drop l.i places))
    ≡ first_unused (is_taken l.flows l.end) (map (port_at l.lease) places)
