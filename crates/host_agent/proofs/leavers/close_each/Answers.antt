use Rattle.std.proofs.Common.{rules, ◌≡◌, ◌∙◌, List, [], None, filter, find, ap, sym}
use Rattle.wire_core.specs.declared.step.Step.{Step}
use Rattle.agent_spec.specs.declared.connection.Connection.{Connection}
use Rattle.agent_spec.specs.Connections.{is_idle}
use Rattle.agent_ports.specs.Ports.{PortsState}
use Rattle.host_agent.specs.Idle.{closed_each, closings, with_acts}
use Rattle.host_agent.proofs.Gone.{no_acts, none_pass}
use Rattle.host_agent.proofs.leavers.close_each.Goals as goal

pub returns-clause-ports : goal.returns-clause-ports
returns-clause-ports c =
    let none : find (is_idle c.args.now c.args.idle) c.loop-c.ports.conns ≡ None = search rules in
    let same : c.expire.new.self ≡ c.loop-c.ports = search rules in
    same
    ∙ ap (λ (cs : List Connection). closed_each c.args.now cs c.loop-c.ports)
    (sym (none_pass (is_idle c.args.now c.args.idle) c.loop-c.ports.conns none))
    ∙ c.loop-c.invariant.ports

pub returns-clause-step : goal.returns-clause-step
returns-clause-step c =
    let none : find (is_idle c.args.now c.args.idle) c.loop-c.ports.conns ≡ None = search rules in
    sym (no_acts c.loop-c.step)
    ∙ ap (λ (cs : List Connection). with_acts (closings cs) c.loop-c.step)
    (sym (none_pass (is_idle c.args.now c.args.idle) c.loop-c.ports.conns none))
    ∙ c.loop-c.invariant.step
