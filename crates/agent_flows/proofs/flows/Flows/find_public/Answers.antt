use Rattle.std.proofs.Common.{◌∙◌, ap, List, Option}
use Rattle.agent_spec.specs.declared.connection.Connection.{Connection}
use Rattle.agent_flows.specs.Slots.{slot_at}
use Rattle.agent_flows.proofs.Kept.{there_public}
use Rattle.agent_flows.proofs.flows.Flows.find_public.Goals as goal

pub returns : goal.returns
returns c =
    there_public c.self.inside.slots.items _ _ _ _ c.args.self.now c.args.key.now c.place_of.result c.slot_at.result
    c.self.invariant
    c.self.view_is
    c.place_of.ensures
    (c.slot_at.ensures ∙ ap (λ (l : List (Option Connection)). slot_at l c.place_of.result) c.deref.ensures.value)
