use Rattle.std.proofs.Common.{rules, ◌≡◌, Some, None, ap, ◌∙◌, get_or, set, subst, List}
use Rattle.agent_spec.specs.declared.held.Held.{Held}
use Rattle.agent_ports.specs.Leases.{counted_by, held_number}
use Rattle.agent_ports.specs.Order.{IsPlace}
use Rattle.agent_ports.proofs.Ordered.{map_lacks, set_map}
use Rattle.agent_ports.proofs.held.count.Goals as goal

pub returns-in-Some : goal.returns-in-Some
returns-in-Some c =
    let at = subst (IsPlace held_number c.args.n c.deref.result.now) c.in-Some.is c.place_of.ensures in
    let here =
    subst (λ (l : List Held). IsPlace held_number c.args.n l (Some c.in-Some.i)) c.deref.ensures.value at in
    let read : c.index.result.now ≡ get_or c.args.held.now.items c.in-Some.i c.index.result.now = search rules in
    ap (set c.args.held.now.items c.in-Some.i) (c.counted-counted.ensures ∙ ap (counted_by c.args.count) read)
    ∙ set_map c.args.n (counted_by c.args.count) c.args.held.now.items c.in-Some.i c.index.result.now c.requires here

pub returns-in_default : goal.returns-in_default
returns-in_default c =
    let at = subst (IsPlace held_number c.args.n c.deref.result.now) c.in_default.is c.place_of.ensures in
    map_lacks c.args.n (counted_by c.args.count) c.args.held.now.items
    (subst (λ (l : List Held). IsPlace held_number c.args.n l None) c.deref.ensures.value at)
