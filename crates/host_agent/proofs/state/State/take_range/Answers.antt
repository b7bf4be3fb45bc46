use Rattle.std.proofs.Common.{rules, ◌≡◌, ◌∙◌, Some, ap}
use Rattle.std.specs.Prelude.{option_map}
use Rattle.node_spec.specs.Steps.{tried, turned}
use Rattle.agent_spec.specs.Agent.{host_of, of_site}
use Rattle.agent_spec.specs.Answers.{take_grant}
use Rattle.host_agent.specs.contracts.state.State.{the_view}
use Rattle.host_agent.specs.Seen.{Core, kept_in, site, with_lists}
use Rattle.host_agent.proofs.Sited.{site_turned}
use Rattle.host_agent.proofs.state.State.take_range.Goals as goal

pub returns : goal.returns
returns c = λ h found.
    let took : ((c.grant.new.traffic, c.grant.new.self), (c.grant.new.step, c.in_ok-grant.field-0))
    ≡ tried (kept_in c.self.inside.hosts) c.self.inside.cfg c.args.step.now (c.self.inside.traffic, c.self.inside.hosts)
    (option_map (λ x. take_grant c.self.inside.cfg c.self.inside.origin.boot c.self.inside.origin.hint
    (site c.self.inside.traffic x) c.args.grant.now.seq c.args.grant.now.n)
    (host_of c.self.inside.hosts c.args.grant.now.machine)) = search rules in
    site_turned (the_view c.self.inside) c.args.step.now c.grant.new.step c.grant.new.traffic c.grant.new.self
    c.in_ok-grant.field-0 h (host_of c.self.inside.hosts c.args.grant.now.machine)
    (λ x. take_grant c.self.inside.cfg c.self.inside.origin.boot c.self.inside.origin.hint
    (site c.self.inside.traffic x) c.args.grant.now.seq c.args.grant.now.n)
    took (ap (λ (x : Core). host_of x.lists.hosts c.args.grant.now.machine) c.self.view_is ∙ found)
    ∙ ap (λ (x : Core). turned (with_lists x) x.config c.args.step.now
    (of_site x.lists (take_grant x.config x.lists.boot x.lists.hint (site x.lists.traffic h) c.args.grant.now.seq
    c.args.grant.now.n))) c.self.view_is
