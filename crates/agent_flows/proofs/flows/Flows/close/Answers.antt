use Rattle.std.proofs.Common.{rules, ◌≡◌, ◌∙◌, ap, sym, Some, None, Option, List, get_or, if◌then◌else◌}
use Rattle.indexmap.specs.IndexMap.{get}
use Rattle.wire_core.specs.declared.flow.FlowKey.{FlowKey}
use Rattle.wire_core.specs.Same.{same_key}
use Rattle.agent_spec.specs.declared.connection.Connection.{Connection}
use Rattle.agent_spec.specs.Connections.{private_key, public_key}
use Rattle.agent_flows.specs.Slots.{slot_at}
use Rattle.agent_flows.proofs.Kept.{own_there, there, closed_here, closed_absent, kept_clear, one_is_live}
use Rattle.agent_flows.proofs.flows.Flows.close.Goals as goal

pub overflow_sub-self : goal.overflow_sub-self
overflow_sub-self c =
    let e : get_or c.self.inside.slots.items c.unwrap-place.result None ≡ Some c.in-Some.c =
    sym (ap (slot_at c.self.inside.slots.items) c.unwrap-place.ensures)
    ∙ ap (λ (l : List (Option Connection)). slot_at l c.place_of-place.result) (sym c.deref.ensures.value)
    ∙ sym c.slot_at.ensures
    ∙ c.in-Some.is in
    one_is_live c.self.inside.slots.items _ _ _ _ c.unwrap-place.result c.in-Some.c c.self.invariant e

pub invariant_of-self : goal.invariant_of-self
invariant_of-self c =
    let e : get_or c.self.inside.slots.items c.unwrap-place.result None ≡ Some c.in-Some.c =
    sym (ap (slot_at c.self.inside.slots.items) c.unwrap-place.ensures)
    ∙ ap (λ (l : List (Option Connection)). slot_at l c.place_of-place.result) (sym c.deref.ensures.value)
    ∙ sym c.slot_at.ensures
    ∙ c.in-Some.is in
    let less : (k : FlowKey) → get same_key c.forget.new.map k
    ≡ (if same_key (private_key c.in-Some.c) k then None else get same_key c.self.inside.by_private k) =
    λ k. search rules in
    let less2 : (k : FlowKey) → get same_key c.forget-in-Some.new.map k
    ≡ (if same_key (public_key c.in-Some.c) k then None else get same_key c.self.inside.by_public k) =
    λ k. search rules in
    kept_clear c.self.inside.slots.items _ _ _ _ _ _ _ c.unwrap-place.result c.in-Some.c c.self.invariant e less less2
    c.self.invariant.rest

pub returns-in-Some-clause-result : goal.returns-in-Some-clause-result
returns-in-Some-clause-result c =
    sym c.in-Some.is
    ∙ there c.self.inside.slots.items _ _ _ _ c.args.self.now c.args.key.now c.place_of-place.result c.slot_at.result
    c.self.invariant
    c.self.view_is
    c.place_of-place.ensures
    (c.slot_at.ensures ∙ ap (λ (l : List (Option Connection)). slot_at l c.place_of-place.result) c.deref.ensures.value)

pub returns-in-Some-clause-left : goal.returns-in-Some-clause-left
returns-in-Some-clause-left c =
    let e : get_or c.self.inside.slots.items c.unwrap-place.result None ≡ Some c.in-Some.c =
    sym (ap (slot_at c.self.inside.slots.items) c.unwrap-place.ensures)
    ∙ ap (λ (l : List (Option Connection)). slot_at l c.place_of-place.result) (sym c.deref.ensures.value)
    ∙ sym c.slot_at.ensures
    ∙ c.in-Some.is in
    closed_here c.self.inside.slots.items _ _ _ _ c.args.self.now c.args.key.now c.unwrap-place.result c.in-Some.c
    c.self.invariant
    c.self.view_is
    (sym c.place_of-place.ensures ∙ c.unwrap-place.ensures)
    e

pub returns-in-None-clause-result : goal.returns-in-None-clause-result
returns-in-None-clause-result c =
    sym c.in-None.is
    ∙ there c.self.inside.slots.items _ _ _ _ c.args.self.now c.args.key.now c.place_of-place.result c.slot_at.result
    c.self.invariant
    c.self.view_is
    c.place_of-place.ensures
    (c.slot_at.ensures ∙ ap (λ (l : List (Option Connection)). slot_at l c.place_of-place.result) c.deref.ensures.value)

pub returns-in-None-clause-left : goal.returns-in-None-clause-left
returns-in-None-clause-left c =
    sym
    (closed_absent c.args.key.now c.args.self.now
    (sym
    (sym c.in-None.is
    ∙ there c.self.inside.slots.items _ _ _ _ c.args.self.now c.args.key.now c.place_of-place.result c.slot_at.result
    c.self.invariant
    c.self.view_is
    c.place_of-place.ensures
    (c.slot_at.ensures
    ∙ ap (λ (l : List (Option Connection)). slot_at l c.place_of-place.result) c.deref.ensures.value))))

pub returns-in-Some-clause-own : goal.returns-in-Some-clause-own
returns-in-Some-clause-own c =
    own_there c.self.inside.slots.items _ _ _ _ c.args.self.now c.args.key.now _ c.self.invariant c.self.view_is
    (sym c.in-Some.is
    ∙ there c.self.inside.slots.items _ _ _ _ c.args.self.now c.args.key.now c.place_of-place.result c.slot_at.result
    c.self.invariant
    c.self.view_is
    c.place_of-place.ensures
    (c.slot_at.ensures
    ∙ ap (λ (l : List (Option Connection)). slot_at l c.place_of-place.result) c.deref.ensures.value))

pub returns-in-None-clause-own : goal.returns-in-None-clause-own
returns-in-None-clause-own c =
    own_there c.self.inside.slots.items _ _ _ _ c.args.self.now c.args.key.now _ c.self.invariant c.self.view_is
    (sym c.in-None.is
    ∙ there c.self.inside.slots.items _ _ _ _ c.args.self.now c.args.key.now c.place_of-place.result c.slot_at.result
    c.self.invariant
    c.self.view_is
    c.place_of-place.ensures
    (c.slot_at.ensures
    ∙ ap (λ (l : List (Option Connection)). slot_at l c.place_of-place.result) c.deref.ensures.value))
