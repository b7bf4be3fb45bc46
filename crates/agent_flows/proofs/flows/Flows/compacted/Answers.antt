use Rattle.std.proofs.Common.{rules, ◌≡◌, ◌∙◌, ap, sym, ◌++◌, ◌∷◌, [], arith, List, Option}
use Rattle.agent_spec.specs.declared.connection.Connection.{Connection}
use Rattle.agent_flows.specs.Slots.{listed}
use Rattle.agent_flows.proofs.Looks.{all_taken, more_none, more_some, none_taken}
use Rattle.agent_flows.proofs.Kept.{before_few, before_private, before_public}
use Rattle.agent_flows.proofs.flows.Flows.compacted.Goals.{in-Some+in_ok-add, in_default}
use Rattle.agent_flows.proofs.flows.Flows.compacted.Goals as goal

pub loop-slot-init : goal.loop-slot-init
loop-slot-init c = c.new-flows.ensures ∙ sym (none_taken c.deref-slot-items.result.now)

pub add-requires-clause-private : goal.add-requires-clause-private
add-requires-clause-private c =
    before_private c.self.inside.slots.items c.deref-slot-items.result.now _ _ _ _ c.loop-slot.flows c.loop-slot.slot-index
    c.in-Some.c
    c.deref-slot-items.ensures.value
    c.self.invariant
    c.in-Some.is
    c.loop-slot.invariant

pub add-requires-clause-public : goal.add-requires-clause-public
add-requires-clause-public c =
    before_public c.self.inside.slots.items c.deref-slot-items.result.now _ _ _ _ c.loop-slot.flows c.loop-slot.slot-index
    c.in-Some.c
    c.deref-slot-items.ensures.value
    c.self.invariant
    c.in-Some.is
    c.loop-slot.invariant

pub add-requires-clause-few : goal.add-requires-clause-few
add-requires-clause-few c =
    before_few c.self.inside.slots.items c.deref-slot-items.result.now _ _ _ _ c.loop-slot.flows c.loop-slot.slot-index
    c.in-Some.c
    c.deref-slot-items.ensures.value
    c.self.invariant
    c.in-Some.is
    c.loop-slot.invariant

pub loop-slot-preserved : goal.loop-slot-preserved
loop-slot-preserved c = elim c.match-slot.branch [
  | in-Some+in_ok-add w ↦
      let more : c.match-slot.flows ≡ c.loop-slot.flows ++ w.in-Some.c ∷ [] = search rules in
      more
      ∙ ap (λ (l : List Connection). l ++ w.in-Some.c ∷ []) c.loop-slot.invariant
      ∙ sym (more_some c.deref-slot-items.result.now c.loop-slot.slot-index w.in-Some.c w.in-Some.is)
  | in_default w ↦
      w.flows-is
      ∙ c.loop-slot.invariant
      ∙ sym (more_none c.deref-slot-items.result.now c.loop-slot.slot-index w.in_default.is)
]

pub returns : goal.returns
returns c =
    c.loop-slot.invariant
    ∙ ap listed (all_taken c.deref-slot-items.result.now c.loop-slot.slot-index (omega (arith, c.loop-slot-test.false)))
    ∙ ap listed c.deref-slot-items.ensures.value
    ∙ c.self.view_is
