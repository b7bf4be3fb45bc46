use Rattle.std.proofs.Common.{rules, ◌≡◌, ◌∙◌, ◌++◌, sym, subst, ap, List, length, ℕ}
use Rattle.agent_spec.specs.declared.held.Held.{Held}
use Rattle.agent_spec.specs.Ranges.{Ranges}
use Rattle.agent_ports.specs.Flags.{flagged}
use Rattle.agent_ports.specs.Full.{IsKnown}
use Rattle.agent_ports.specs.Leases.{held_number}
use Rattle.agent_ports.specs.Order.{Ascend}
use Rattle.agent_ports.specs.Ports.{PortsState, given_back_each, numbers}
use Rattle.agent_ports.proofs.Fullness.{known_unflagged}
use Rattle.agent_ports.proofs.Giving.{all_back}
use Rattle.agent_ports.proofs.ports.Ports.give_back.Goals as goal

pub invariant_of-self-2 : goal.invariant_of-self-2
invariant_of-self-2 c =
    subst (λ (l : List Held). IsKnown c.self.inside.full c.self.inside.flows l) (sym c.in_ok-keep_unflagged.ensures.ok)
    (known_unflagged c.self.inside.full c.self.inside.flows c.self.inside.held c.args.flags.now c.self.invariant)

pub returns-clause-ranges : goal.returns-clause-ranges
returns-clause-ranges c =
    let returning : c.extend_from_slice.new.self.items ≡ c.self.inside.returning.items ++ c.args.given.now = search rules in
    let p : Ranges = record {
      held = c.self.inside.held;
      kept = c.self.inside.kept.entries;
      returning = c.self.inside.returning.items;
    } in
    let held : c.self.inside.held ≡ c.args.self.now.ranges.held =
    ap (λ (s : PortsState). s.ranges.held) c.self.view_is in
    all_back c.args.flags.now p c.keep_unflagged.new.self c.extend_from_slice.new.self.items c.args.given.now
    (subst (Ascend held_number) (sym held) c.requires.ascend)
    (c.requires.len ∙ sym (ap length held))
    c.in_ok-keep_unflagged.ensures.ok
    returning
    (c.requires.given ∙ sym (ap (λ (l : List Held). numbers (flagged c.args.flags.now l)) held))
    ∙ ap
    (λ (s : PortsState). given_back_each (flagged c.args.flags.now s.ranges.held) s.ranges)
    c.self.view_is
