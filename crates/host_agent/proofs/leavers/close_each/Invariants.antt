use Rattle.std.proofs.Common.{◌≡◌, filter, length}
use Rattle.agent_spec.specs.Connections.{is_idle}
use Rattle.host_agent.specs.Idle.{closed_each, closings, with_acts}
use Rattle.host_agent.proofs.leavers.close_each.Given as goal

abbrev pub invariant-loop-c : goal.invariant-loop-c
invariant-loop-c l = record {
  ports : closed_each l.now (filter (is_idle l.now l.idle) l.ports.conns) l.ports
      ≡ closed_each l.now (filter (is_idle l.now l.idle) l.fn.ports.conns) l.fn.ports;
  step : with_acts (closings (filter (is_idle l.now l.idle) l.ports.conns)) l.step
      ≡ with_acts (closings (filter (is_idle l.now l.idle) l.fn.ports.conns)) l.fn.step;
}

abbrev pub decreases-loop-c : goal.decreases-loop-c
decreases-loop-c l = length (filter (is_idle l.now l.idle) l.ports.conns)
