use Rattle.std.proofs.Common.{rules, ◌≡◌, ◌∙◌, ap}
use Rattle.node_spec.specs.Steps.{turned}
use Rattle.agent_spec.specs.Agent.{with_traffic}
use Rattle.agent_spec.specs.Clock.{at_now, idle_leave, on_tick, says_again}
use Rattle.host_agent.specs.contracts.state.State.{the_view}
use Rattle.host_agent.specs.Seen.{Core, as_is, with_lists}
use Rattle.host_agent.proofs.Ticked.{tick_turned}
use Rattle.host_agent.proofs.state.State.on_tick.Goals as goal

pub returns : goal.returns
returns c =
    let leaves : (c.leave_idle.new.traffic, c.leave_idle.new.step)
    ≡ turned as_is c.self.inside.cfg c.args.step.now
    (idle_leave c.self.inside.cfg c.self.inside.hosts (at_now (the_view c.self.inside).lists c.args.now)) = search rules in
    let says : (c.say_again.new.self, c.say_again.new.step)
    ≡ turned (with_lists (the_view c.self.inside)) c.self.inside.cfg c.leave_idle.new.step
    (says_again c.self.inside.cfg.timers.ask_retry
    (with_traffic (the_view c.self.inside).lists c.leave_idle.new.traffic)) = search rules in
    tick_turned (the_view c.self.inside) c.args.now c.args.step.now c.leave_idle.new.step c.say_again.new.step
    c.leave_idle.new.traffic c.say_again.new.self leaves says
    ∙ ap (λ (x : Core). turned (with_lists x) x.config c.args.step.now (on_tick x.config x.lists c.args.now)) c.self.view_is
