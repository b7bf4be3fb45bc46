use Rattle.std.proofs.Common.{◌≡◌, Bool, None, if◌then◌else◌, subst}
use Rattle.indexmap.specs.IndexMap.{get}
use Rattle.wire_core.specs.declared.flow.FlowKey.{FlowKey}
use Rattle.agent_flows.proofs.Kept.{key_eq_is}
use Rattle.agent_flows.proofs.places.forget.Goals as goal

pub returns : goal.returns
returns c k =
    subst
    (λ (eq : FlowKey → FlowKey → Bool).
    get eq c.swap_remove.new.self k ≡ (if eq c.args.key k then None else get eq c.args.map.now k))
    key_eq_is
    (c.swap_remove.ensures.updates.0 k)
