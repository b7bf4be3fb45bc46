use Rattle.std.proofs.Common.{rules, ◌≡◌, ◌++◌, ◌∷◌, [], length, List, subst, sym, if◌then◌else◌}
use Rattle.indexmap.specs.IndexMap.{get}
use Rattle.wire_core.specs.declared.address.Ip4.{Ip4}
use Rattle.wire_core.specs.Same.{same_ip}
use Rattle.agent_spec.specs.declared.held.Held.{Held}
use Rattle.agent_ports.specs.Leases.{entry_leases, held_number, lease_of}
use Rattle.agent_ports.specs.Order.{SplitsAt}
use Rattle.agent_ports.proofs.Machines.{indexed_push}
use Rattle.agent_ports.proofs.Ordered.{ascend_push}
use Rattle.agent_ports.proofs.ranges.HeldRanges.push.Goals as goal

pub invariant_of-self-2 : goal.invariant_of-self-2
invariant_of-self-2 c =
    let split = subst (λ (l : List Held). SplitsAt held_number c.args.h.n l (length l)) (sym c.self.view_is) c.requires in
    let items : c.push.new.self.items ≡ c.self.inside.items.items ++ c.args.h ∷ [] = search rules in
    let added : (m : Ip4) → entry_leases (get same_ip c.add_lease.new.map m)
    ≡ (if same_ip c.args.h.machine m then entry_leases (get same_ip c.self.inside.by_machine m) ++ lease_of c.args.h ∷ []
    else entry_leases (get same_ip c.self.inside.by_machine m)) =
    λ m. search rules in
    indexed_push c.self.inside.items.items _ c.args.h _ _ c.self.invariant
    (ascend_push c.self.inside.items.items c.args.h c.self.invariant.ascend split)
    items
    added
