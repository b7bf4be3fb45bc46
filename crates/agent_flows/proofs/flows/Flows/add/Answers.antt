use Rattle.std.proofs.Common.{rules, ◌≡◌, ◌∙◌, ap, sym, subst, ◌++◌, ◌∷◌, [], ◌+◌, ◌<◌, arith, find, length, Some, None}
use Rattle.std.proofs.Common.{Option, List, if◌then◌else◌}
use Rattle.indexmap.specs.IndexMap.{get}
use Rattle.wire_core.specs.declared.flow.FlowKey.{FlowKey}
use Rattle.wire_core.specs.Same.{same_key}
use Rattle.agent_spec.specs.declared.connection.Connection.{Connection}
use Rattle.agent_spec.specs.Connections.{has_private, has_public, most, private_key, public_key}
use Rattle.agent_flows.specs.Slots.{IsKept, listed}
use Rattle.agent_flows.proofs.Kept.{kept_push, listed_push}
use Rattle.agent_flows.proofs.flows.Flows.add.Goals as goal

pub invariant_of-self-2 : goal.invariant_of-self-2
invariant_of-self-2 c =
    let items : c.push.new.self.items ≡ c.self.inside.slots.items ++ Some c.args.c ∷ [] = search rules in
    let more : (k : FlowKey) → get same_key c.put.new.map k
    ≡ (if same_key (private_key c.args.c) k then Some (length c.self.inside.slots.items)
    else get same_key c.self.inside.by_private k) =
    λ k. search rules in
    let more2 : (k : FlowKey) → get same_key c.put-2.new.map k
    ≡ (if same_key (public_key c.args.c) k then Some (length c.self.inside.slots.items)
    else get same_key c.self.inside.by_public k) =
    λ k. search rules in
    let room : c.self.inside.live < most =
    (let n = ap length c.self.view_is in let m = c.self.invariant.count in let few = c.requires.few in omega arith) in
    subst
    (λ (l : List (Option Connection)).
    IsKept l (c.self.inside.live + 1) (get same_key c.put.new.map) (get same_key c.put-2.new.map) c.self.inside.looked)
    (sym items)
    (kept_push c.self.inside.slots.items _ _ _ _ _ _ c.args.c c.self.invariant room
    (ap (find (has_private (private_key c.args.c))) c.self.view_is ∙ c.requires.private)
    (ap (find (has_public (public_key c.args.c))) c.self.view_is ∙ c.requires.public)
    more
    more2)

pub returns-clause-ok : goal.returns-clause-ok
returns-clause-ok c =
    let items : c.push.new.self.items ≡ c.self.inside.slots.items ++ Some c.args.c ∷ [] = search rules in
    c.notice_last.ensures
    ∙ ap listed items
    ∙ listed_push c.self.inside.slots.items c.args.c
    ∙ ap (λ (l : List Connection). l ++ c.args.c ∷ []) c.self.view_is
