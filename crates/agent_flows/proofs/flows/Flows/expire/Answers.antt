use Rattle.std.proofs.Common.{rules, ◌≡◌, ◌∙◌, ap, sym, filter, find, not, take, Some, None, Option, List, Bool, true, get_or}
use Rattle.std.proofs.Common.{if◌then◌else◌}
use Rattle.indexmap.specs.IndexMap.{get}
use Rattle.wire_core.specs.declared.flow.FlowKey.{FlowKey}
use Rattle.wire_core.specs.Same.{same_key}
use Rattle.agent_spec.specs.declared.connection.Connection.{Connection}
use Rattle.agent_spec.specs.Connections.{is_idle, private_key, public_key}
use Rattle.agent_flows.specs.Slots.{IsLooked, listed}
use Rattle.agent_flows.proofs.Looks.{first_out, found_holds, others_stay}
use Rattle.agent_flows.proofs.Kept.{kept_clear, own_out, taken_out}
use Rattle.agent_flows.proofs.flows.Flows.expire.Goals as goal

pub invariant_of-self : goal.invariant_of-self
invariant_of-self c =
    let e : get_or c.self.inside.slots.items c.look_on-self-inside.result.at None ≡ Some c.in-Some.c =
    ap (λ (l : List (Option Connection)). get_or l c.look_on-self-inside.result.at None) (sym c.deref-3.ensures.value)
    ∙ sym c.slot_at.ensures
    ∙ c.in-Some.is in
    let less : (k : FlowKey) → get same_key c.forget.new.map k
    ≡ (if same_key (private_key c.in-Some.c) k then None else get same_key c.self.inside.by_private k) =
    λ k. search rules in
    let less2 : (k : FlowKey) → get same_key c.forget-in-Some.new.map k
    ≡ (if same_key (public_key c.in-Some.c) k then None else get same_key c.self.inside.by_public k) =
    λ k. search rules in
    let looked : IsLooked c.self.inside.slots.items c.look_on-self-inside.result = search rules in
    kept_clear c.self.inside.slots.items _ _ _ _ _ _ _ c.look_on-self-inside.result.at c.in-Some.c c.self.invariant e less
    less2
    looked

pub returns-in-Some-clause-left : goal.returns-in-Some-clause-left
returns-in-Some-clause-left c =
    let e : get_or c.self.inside.slots.items c.look_on-self-inside.result.at None ≡ Some c.in-Some.c =
    ap (λ (l : List (Option Connection)). get_or l c.look_on-self-inside.result.at None) (sym c.deref-3.ensures.value)
    ∙ sym c.slot_at.ensures
    ∙ c.in-Some.is in
    taken_out c.self.inside.slots.items _ _ _ _ c.args.self.now c.look_on-self-inside.result.at c.in-Some.c
    c.self.invariant
    c.self.view_is
    e

pub returns-in-Some-clause-walk : goal.returns-in-Some-clause-walk
returns-in-Some-clause-walk c =
    let e : get_or c.self.inside.slots.items c.look_on-self-inside.result.at None ≡ Some c.in-Some.c =
    ap (λ (l : List (Option Connection)). get_or l c.look_on-self-inside.result.at None) (sym c.deref-3.ensures.value)
    ∙ sym c.slot_at.ensures
    ∙ c.in-Some.is in
    let first : find (is_idle c.args.now c.args.idle) (listed c.self.inside.slots.items)
    ≡ get_or c.self.inside.slots.items c.look_on-self-inside.result.at None =
    search rules in
    let idle : is_idle c.args.now c.args.idle c.in-Some.c ≡ true =
    found_holds (is_idle c.args.now c.args.idle) (listed c.self.inside.slots.items) c.in-Some.c (first ∙ e) in
    let before : find (is_idle c.args.now c.args.idle) (listed (take c.look_on-self-inside.result.at c.self.inside.slots.items))
    ≡ None =
    search rules in
    sym (ap (filter (is_idle c.args.now c.args.idle)) c.self.view_is)
    ∙ first_out (is_idle c.args.now c.args.idle) c.self.inside.slots.items c.look_on-self-inside.result.at c.in-Some.c e idle
    before

pub returns-in-Some-clause-others : goal.returns-in-Some-clause-others
returns-in-Some-clause-others c =
    let e : get_or c.self.inside.slots.items c.look_on-self-inside.result.at None ≡ Some c.in-Some.c =
    ap (λ (l : List (Option Connection)). get_or l c.look_on-self-inside.result.at None) (sym c.deref-3.ensures.value)
    ∙ sym c.slot_at.ensures
    ∙ c.in-Some.is in
    let first : find (is_idle c.args.now c.args.idle) (listed c.self.inside.slots.items)
    ≡ get_or c.self.inside.slots.items c.look_on-self-inside.result.at None =
    search rules in
    let idle : is_idle c.args.now c.args.idle c.in-Some.c ≡ true =
    found_holds (is_idle c.args.now c.args.idle) (listed c.self.inside.slots.items) c.in-Some.c (first ∙ e) in
    others_stay (is_idle c.args.now c.args.idle) c.self.inside.slots.items c.look_on-self-inside.result.at c.in-Some.c e idle
    ∙ ap (filter (λ x. not (is_idle c.args.now c.args.idle x))) c.self.view_is

pub returns-in-Some-clause-own : goal.returns-in-Some-clause-own
returns-in-Some-clause-own c =
    let e : get_or c.self.inside.slots.items c.look_on-self-inside.result.at None ≡ Some c.in-Some.c =
    ap (λ (l : List (Option Connection)). get_or l c.look_on-self-inside.result.at None) (sym c.deref-3.ensures.value)
    ∙ sym c.slot_at.ensures
    ∙ c.in-Some.is in
    own_out c.self.inside.slots.items _ _ _ _ c.args.self.now c.look_on-self-inside.result.at c.in-Some.c c.self.invariant
    c.self.view_is
    e
