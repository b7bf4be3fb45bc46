use Rattle.std.proofs.Common.{rules, ◌≡◌}
use Rattle.node_spec.specs.Steps.{turned}
use Rattle.agent_spec.specs.Clock.{close_idle, give_back_spare}
use Rattle.host_agent.specs.Idle.{without_idle}
use Rattle.host_agent.specs.Seen.{as_is}
use Rattle.host_agent.proofs.Ticked.{leave_turned}
use Rattle.host_agent.proofs.leavers.leave_idle.Goals as goal

pub returns : goal.returns
returns c =
    let closes : (c.close_idle.new.self, c.close_idle.new.step)
    ≡ turned as_is c.args.cfg.now c.args.step.now (close_idle c.args.cfg.now.timers.flow_idle c.args.traffic.now) = search rules in
    let gives : (c.give_back_spare.new.traffic, c.give_back_spare.new.step)
    ≡ turned as_is c.args.cfg.now c.close_idle.new.step
    (give_back_spare c.args.hosts.now c.args.cfg.now.timers.range_idle
    (without_idle c.args.cfg.now.timers.flow_idle c.close_idle.new.self)) = search rules in
    leave_turned c.args.cfg.now c.args.hosts.now c.args.step.now c.close_idle.new.step c.give_back_spare.new.step
    c.args.traffic.now c.close_idle.new.self c.give_back_spare.new.traffic closes gives
