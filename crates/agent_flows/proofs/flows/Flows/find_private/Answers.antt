use Rattle.std.proofs.Common.{◌∙◌, ap, List, Option}
use Rattle.agent_spec.specs.declared.connection.Connection.{Connection}
use Rattle.agent_flows.specs.Slots.{slot_at}
use Rattle.agent_flows.proofs.Kept.{own_there, there}
use Rattle.agent_flows.proofs.flows.Flows.find_private.Goals as goal

pub returns-clause-found : goal.returns-clause-found
returns-clause-found c =
    there c.self.inside.slots.items _ _ _ _ c.args.self.now c.args.key.now c.place_of.result c.slot_at.result
    c.self.invariant
    c.self.view_is
    c.place_of.ensures
    (c.slot_at.ensures ∙ ap (λ (l : List (Option Connection)). slot_at l c.place_of.result) c.deref.ensures.value)

pub returns-clause-own : goal.returns-clause-own
returns-clause-own c =
    own_there c.self.inside.slots.items _ _ _ _ c.args.self.now c.args.key.now c.slot_at.result c.self.invariant
    c.self.view_is
    (there c.self.inside.slots.items _ _ _ _ c.args.self.now c.args.key.now c.place_of.result c.slot_at.result
    c.self.invariant
    c.self.view_is
    c.place_of.ensures
    (c.slot_at.ensures ∙ ap (λ (l : List (Option Connection)). slot_at l c.place_of.result) c.deref.ensures.value))
