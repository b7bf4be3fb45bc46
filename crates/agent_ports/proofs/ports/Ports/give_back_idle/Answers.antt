use Rattle.std.proofs.Common.{rules, ◌≡◌, ◌∙◌, ap, List}
use Rattle.agent_spec.specs.declared.held.Held.{Held}
use Rattle.agent_ports.specs.Flags.{flagged}
use Rattle.agent_ports.specs.Ports.{PortsState, given_back_each, is_spare}
use Rattle.agent_ports.proofs.Giving.{flagged_spare, spare_numbers}
use Rattle.agent_ports.proofs.ports.Ports.give_back_idle.Goals as goal

pub returns-clause-numbers : goal.returns-clause-numbers
returns-clause-numbers g c = λ test says.
    spare_numbers (is_spare test c.args.now c.args.idle) c.args.self.now.ranges.held c.as_slice.result.now
    c.as_slice-2.result.now
    c.in_ok-flags.flags.items
    c.deref.result.now
    c.in_ok-given.given.items
    c.from_vec.result
    c.from_vec.ensures
    c.in_ok-given.ensures
    c.deref.ensures.value
    (c.as_slice-2.ensures.items ∙ ap (λ (s : PortsState). s.ranges.held) c.self.view_is)
    (c.in_ok-flags.ensures.flags test says)
    (c.as_slice.ensures.items ∙ ap (λ (s : PortsState). s.ranges.held) c.self.view_is)

pub returns-clause-ranges : goal.returns-clause-ranges
returns-clause-ranges g c = λ test says.
    let back : c.give_back.new.self.ranges
    ≡ given_back_each (flagged c.deref-2.result.now c.args.self.now.ranges.held) c.args.self.now.ranges =
    search rules in
    back
    ∙ ap
    (λ (l : List Held). given_back_each l c.args.self.now.ranges)
    (flagged_spare (is_spare test c.args.now c.args.idle) c.args.self.now.ranges.held c.as_slice.result.now
    c.in_ok-flags.flags.items
    c.deref-2.result.now
    c.deref-2.ensures.value
    (c.in_ok-flags.ensures.flags test says)
    (c.as_slice.ensures.items ∙ ap (λ (s : PortsState). s.ranges.held) c.self.view_is))
