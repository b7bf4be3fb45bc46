use Rattle.std.proofs.Common.{rules, ◌≡◌, ◌∙◌, filter, ap}
use Rattle.node_spec.specs.Steps.{turned}
use Rattle.agent_spec.specs.Agent.{Traffic}
use Rattle.agent_spec.specs.Clock.{close_idle}
use Rattle.agent_spec.specs.Connections.{is_idle}
use Rattle.host_agent.specs.Idle.{closed_each, closings, with_acts}
use Rattle.host_agent.specs.Seen.{as_is}
use Rattle.host_agent.proofs.Ticked.{idle_turned}
use Rattle.host_agent.proofs.traffic.Traffic.close_idle.Goals as goal

pub returns : goal.returns
returns c =
    let ports : c.close_each.new.ports
    ≡ closed_each c.self.inside.time (filter (is_idle c.self.inside.time c.args.idle) c.self.inside.ports.conns)
    c.self.inside.ports = search rules in
    let step : c.close_each.new.step
    ≡ with_acts (closings (filter (is_idle c.self.inside.time c.args.idle) c.self.inside.ports.conns)) c.args.step.now = search rules in
    idle_turned c.args.cfg.now c.args.step.now c.close_each.new.step c.args.idle c.self.inside.ports c.close_each.new.ports
    c.self.inside.inbound c.self.inside.time ports step
    ∙ ap (λ (t : Traffic). turned as_is c.args.cfg.now c.args.step.now (close_idle c.args.idle t)) c.self.view_is
