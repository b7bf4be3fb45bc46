use Rattle.std.proofs.Common.{rules, ◌≡◌, ◌∙◌, List, map, ap}
use Rattle.std.specs.List.{flat_map}
use Rattle.node_spec.specs.Steps.{outgoing, turned, with_sends}
use Rattle.agent_spec.specs.Agent.{Host}
use Rattle.agent_spec.specs.Clock.{asks_again, renewed, returns_again, says_again, up_again}
use Rattle.host_agent.specs.contracts.state.State.{the_view}
use Rattle.host_agent.specs.Seen.{Core, with_lists}
use Rattle.host_agent.proofs.Ticked.{said_turned}
use Rattle.host_agent.proofs.state.State.say_again.Goals as goal

pub returns : goal.returns
returns c =
    let up : c.say_up.new.step
    ≡ with_sends (flat_map (outgoing c.self.inside.cfg) (up_again (the_view c.self.inside).lists)) c.args.step.now = search rules in
    let asks : c.say_asks.new.step
    ≡ with_sends (flat_map (outgoing c.self.inside.cfg) (asks_again c.args.retry (the_view c.self.inside).lists))
    c.say_up.new.step = search rules in
    let returned : c.say_returns.new.step
    ≡ with_sends (flat_map (outgoing c.self.inside.cfg) (returns_again (the_view c.self.inside).lists))
    c.say_asks.new.step = search rules in
    let hosts : c.renew.new.self ≡ map (renewed c.self.inside.traffic.time c.args.retry) c.self.inside.hosts = search rules in
    ap (λ (hs : List Host).
    (with_lists (the_view c.self.inside) (record (the_view c.self.inside).lists { hosts = hs }), c.say_returns.new.step)) hosts
    ∙ said_turned (the_view c.self.inside) c.args.step.now c.say_up.new.step c.say_asks.new.step c.say_returns.new.step
    c.args.retry up asks returned
    ∙ ap (λ (x : Core). turned (with_lists x) x.config c.args.step.now (says_again c.args.retry x.lists)) c.self.view_is
