use Rattle.std.proofs.Common.{rules, ◌≡◌, ◌∙◌, List, ℕ, filter, ap}
use Rattle.node_spec.specs.Steps.{turned}
use Rattle.agent_spec.specs.Agent.{Traffic, host_of}
use Rattle.agent_spec.specs.Clock.{give_back_spare, holds_packet}
use Rattle.agent_ports.specs.Ports.{given_back_each, is_spare, numbers}
use Rattle.host_agent.specs.Idle.{drops, with_acts}
use Rattle.host_agent.specs.Seen.{as_is}
use Rattle.host_agent.proofs.Ticked.{spare_turned}
use Rattle.host_agent.proofs.leavers.give_back_spare.Goals as goal

pub returns : goal.returns
returns c =
    let given : c.in_ok-given.given
    ≡ numbers (filter (is_spare (λ m. holds_packet (host_of c.args.hosts.now m)) c.traffic.inside.time c.args.idle)
    c.traffic.inside.ports.ranges.held) =
    c.in_ok-given.ensures.numbers (λ m. holds_packet (host_of c.args.hosts.now m)) (λ m b p. search rules) in
    let ranges : c.give_back_idle.new.self.ranges
    ≡ given_back_each (filter (is_spare (λ m. holds_packet (host_of c.args.hosts.now m)) c.traffic.inside.time c.args.idle)
    c.traffic.inside.ports.ranges.held) c.traffic.inside.ports.ranges =
    c.in_ok-given.ensures.ranges (λ m. holds_packet (host_of c.args.hosts.now m)) (λ m b p. search rules) in
    let conns : c.give_back_idle.new.self.conns ≡ c.traffic.inside.ports.conns = search rules in
    let step : c.tell_drops.new.step ≡ with_acts (drops c.in_ok-given.given) c.args.step.now = search rules in
    spare_turned c.args.cfg.now c.args.step.now c.tell_drops.new.step c.args.hosts.now c.args.idle c.traffic.inside.ports
    c.give_back_idle.new.self c.traffic.inside.inbound c.traffic.inside.time ranges conns
    (step ∙ ap (λ (ns : List ℕ). with_acts (drops ns) c.args.step.now) given)
    ∙ ap (λ (t : Traffic). turned as_is c.args.cfg.now c.args.step.now (give_back_spare c.args.hosts.now c.args.idle t))
    c.traffic.view_is
