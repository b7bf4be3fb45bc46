use Rattle.std.proofs.Common.{rules, ◌≡◌, sym, subst, ap}
use Rattle.wire_core.specs.Steps.{no_step}
use Rattle.wire_core.specs.declared.step.Step.{Step}
use Rattle.node_spec.specs.Steps.{input_of, onto, turned}
use Rattle.agent_spec.specs.AgentTable.{agent_step}
use Rattle.agent_spec.specs.Keys.{EntriesApart}
use Rattle.agent_spec.proofs.Entries.{step_keeps}
use Rattle.host_agent.specs.Seen.{Core, with_lists}
use Rattle.host_agent.proofs.state.State.turn.Goals as goal

pub returns-clause-apart : goal.returns-clause-apart
unfolding turned onto
returns-clause-apart c =
    let core = c.args.self.now in
    let row = agent_step core.config core.lists (input_of c.args.input.now) in
    let turn : (c.take_input.new.self, c.take_input.new.step)
    ≡ turned (with_lists core) core.config no_step row = search rules in
    let is : c.take_input.new.self ≡ with_lists core row.state = ap (λ (x : Core × Step). x.0) turn in
    subst (λ (x : Core). EntriesApart x.config x.lists.traffic.inbound) (sym is)
    (step_keeps core.config core.lists (input_of c.args.input.now) c.keeps_rules.ensures c.requires)
