use Rattle.std.proofs.Common.{rules, ◌≡◌, ◌∙◌, sym, subst, List, ap}
use Rattle.agent_spec.specs.declared.held.Held.{Held}
use Rattle.agent_spec.specs.Ranges.{inserted, new_held, place_for}
use Rattle.agent_ports.specs.Full.{IsKnown}
use Rattle.agent_ports.proofs.Fullness.{known_granted}
use Rattle.agent_ports.proofs.Ordered.{fresh}
use Rattle.agent_ports.proofs.ports.Ports.grant.Goals as goal

pub add-requires : goal.add-requires
add-requires c =
    fresh c.self.inside.held c.as_slice.result.now c.args.n c.args.r.now _ _ c.as_slice.ensures.items
    (sym c.is_old.ensures ∙ c.if-is_old.false)

pub invariant_of-self-2 : goal.invariant_of-self-2
invariant_of-self-2 c =
    let added : c.add.new.self ≡ inserted (new_held c.args.n c.args.r.now c.args.machine c.args.now) c.self.inside.held =
    search rules in
    subst (λ (l : List Held). IsKnown c.granted.new.self c.self.inside.flows l) (sym added)
    (known_granted c.self.inside.full c.granted.new.self c.self.inside.flows c.self.inside.held
    (place_for c.args.n c.self.inside.held)
    (new_held c.args.n c.args.r.now c.args.machine c.args.now)
    c.self.invariant
    c.granted.ensures.top
    c.granted.ensures.below
    c.granted.ensures.new)
