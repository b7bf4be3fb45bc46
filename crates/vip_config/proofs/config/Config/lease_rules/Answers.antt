use Rattle.std.proofs.Common.{◌≡◌, Some, map, sym, ap, subst, ◌∙◌}
use Rattle.wire_core.specs.Members.{Each}
use Rattle.wire_core.specs.declared.rules.LeaseRules.{LeaseRules}
use Rattle.vip_config.specs.Leases.{lease_rules_of, rules_of}
use Rattle.vip_config.specs.Machines.{agent_of, machines_of}
use Rattle.vip_config.specs.declared.parts.ConfigParts.{ConfigParts}
use Rattle.vip_config.specs.Rules.{Once}
use Rattle.vip_config.proofs.Laws.{rules_agents, rules_machines, rules_vips}
use Rattle.vip_config.proofs.config.Config.lease_rules.Goals as goal

pub returns-clause-vips : goal.returns-clause-vips
returns-clause-vips c =
    subst (λ (rules : LeaseRules). Once (map (λ rule. rule.vip) rules.vips)) (sym c.in_ok-rules.ensures)
    (rules_vips c.self.inside.index.machines.entries c.self.inside.parts c.self.invariant.rules)

pub returns-clause-machines : goal.returns-clause-machines
returns-clause-machines c =
    subst (λ (rules : LeaseRules). Once (map (λ rule. rule.machine) rules.machines)) (sym c.in_ok-rules.ensures)
    (rules_machines c.self.inside.index.machines.entries c.self.inside.parts c.self.invariant.rules)

pub returns-clause-agents : goal.returns-clause-agents
returns-clause-agents c =
    let parts = c.self.inside.parts in
    let rules : c.in_ok-rules.rules ≡ lease_rules_of parts =
    c.in_ok-rules.ensures ∙ ap (λ m. rules_of m parts) c.self.invariant.of_machines in
    let all = rules_agents parts c.self.invariant.rules in
    let of_rules =
    subst (λ (r : LeaseRules). Each
    (λ rule. agent_of (machines_of parts.agents) rule.machine ≡ Some rule.agent) r.machines) (sym rules) all in
    subst (λ (p : ConfigParts). Each (λ rule. agent_of (machines_of p.agents) rule.machine
    ≡ Some rule.agent) c.in_ok-rules.rules.machines) c.self.view_is of_rules
