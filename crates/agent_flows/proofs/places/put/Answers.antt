use Rattle.std.proofs.Common.{◌≡◌, Bool, Some, if◌then◌else◌, subst}
use Rattle.indexmap.specs.IndexMap.{get}
use Rattle.wire_core.specs.declared.flow.FlowKey.{FlowKey}
use Rattle.agent_flows.proofs.Kept.{key_eq_is}
use Rattle.agent_flows.proofs.places.put.Goals as goal

pub returns : goal.returns
returns c k =
    subst
    (λ (eq : FlowKey → FlowKey → Bool).
    get eq c.insert.new.self k ≡ (if eq c.args.key k then Some c.args.place else get eq c.args.map.now k))
    key_eq_is
    ((rw c.unwrap.ensures at c.insert.ensures.updates).0 k)
