use Rattle.std.proofs.Common.{rules, ◌≡◌, ◌∙◌, List, sym, ap}
use Rattle.agent_ports.specs.Ports.{PortsState}
use Rattle.agent_spec.specs.Agent.{Traffic}
use Rattle.agent_spec.specs.Ranges.{Ranges}
use Rattle.host_agent.proofs.Numbers.{not_returning}
use Rattle.host_agent.proofs.traffic.Traffic.returned.Goals as goal

pub returns-clause-no : goal.returns-clause-no
returns-clause-no c = λ e.
    let left : c.returned.new.self.ranges ≡ c.self.inside.ports.ranges =
    c.returned.ensures.left ∙ not_returning c.args.n c.self.inside.ports.ranges (sym c.returned.ensures.was ∙ e) in
    ap (λ (r : Ranges). record {
      ranges = r;
      conns = c.returned.new.self.conns;
      inbound = c.self.inside.inbound;
      time = c.self.inside.time;
    }) left
    ∙ ap (λ cs. record {
      ranges = c.self.inside.ports.ranges;
      conns = cs;
      inbound = c.self.inside.inbound;
      time = c.self.inside.time;
    }) c.returned.ensures.conns
    ∙ c.self.view_is
