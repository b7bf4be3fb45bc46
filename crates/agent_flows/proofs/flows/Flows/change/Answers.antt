use Rattle.std.proofs.Common.{◌≡◌, ◌∙◌, ap, sym, subst, refl, map, Some, None, Option, List, get_or, set}
use Rattle.agent_spec.specs.declared.connection.Connection.{Connection}
use Rattle.agent_spec.specs.Connections.{at_private}
use Rattle.agent_flows.specs.Changes.{made}
use Rattle.agent_flows.specs.Slots.{listed, slot_at}
use Rattle.agent_flows.proofs.Kept.{there, map_absent, edited, kept_changed}
use Rattle.agent_flows.proofs.flows.Flows.change.Goals as goal

pub invariant_of-self : goal.invariant_of-self
invariant_of-self c =
    let e : get_or c.self.inside.slots.items c.in-Some.place None ≡ Some c.in-Some-slot_at.c =
    ap (λ (l : List (Option Connection)). get_or l c.in-Some.place None) (sym c.deref.ensures.value)
    ∙ sym c.slot_at.ensures
    ∙ c.in-Some-slot_at.is in
    kept_changed c.self.inside.slots.items _ _ _ _ _ c.in-Some.place c.in-Some-slot_at.c c.made-changed.result c.args.change
    c.self.invariant
    e
    c.made-changed.ensures
    c.with_use-self-inside.ensures

pub returns-in-Some-slot_at : goal.returns-in-Some-slot_at
returns-in-Some-slot_at c =
    let e : get_or c.self.inside.slots.items c.in-Some.place None ≡ Some c.in-Some-slot_at.c =
    ap (λ (l : List (Option Connection)). get_or l c.in-Some.place None) (sym c.deref.ensures.value)
    ∙ sym c.slot_at.ensures
    ∙ c.in-Some-slot_at.is in
    ap
    (λ (d : Connection). listed (set c.self.inside.slots.items c.in-Some.place (Some d)))
    c.made-changed.ensures
    ∙ edited c.self.inside.slots.items _ _ _ _ c.args.self.now c.args.key.now c.in-Some.place c.in-Some-slot_at.c
    (made c.args.change)
    c.self.invariant
    c.self.view_is
    (sym c.place_of.ensures ∙ c.in-Some.is)
    e

pub returns-in_default-slot_at : goal.returns-in_default-slot_at
returns-in_default-slot_at c =
    sym
    (map_absent c.args.key.now (made c.args.change) c.args.self.now
    (sym
    (sym c.in_default-slot_at.is
    ∙ there c.self.inside.slots.items _ _ _ _ c.args.self.now c.args.key.now (Some c.in-Some.place) c.slot_at.result
    c.self.invariant
    c.self.view_is
    (sym c.in-Some.is ∙ c.place_of.ensures)
    (c.slot_at.ensures
    ∙ ap (λ (l : List (Option Connection)). get_or l c.in-Some.place None) c.deref.ensures.value))))

pub returns-in_default : goal.returns-in_default
returns-in_default c =
    sym
    (map_absent c.args.key.now (made c.args.change) c.args.self.now
    (sym
    (there c.self.inside.slots.items _ _ _ _ c.args.self.now c.args.key.now None None
    c.self.invariant
    c.self.view_is
    (sym c.in_default.is ∙ c.place_of.ensures)
    refl)))
