use Rattle.std.proofs.Common.{◌≡◌, None, Some, if◌then◌else◌, sym, ap, subst, ◌∙◌}
use Rattle.std.specs.Map.{lookup}
use Rattle.lease_spec.specs.Table.{rule_of}
use Rattle.lease_rows.specs.Rows.{same_address}
use Rattle.port_leases.specs.Store.{StoreState}
use Rattle.port_leases.proofs.Stored.{stored-machine}
use Rattle.port_leases.proofs.store.Store.add_machine.Goals as goal

pub invariant_of-self-2 : goal.invariant_of-self-2
invariant_of-self-2 c =
    let new = subst (λ (v : StoreState). rule_of v.rules c.args.rule.machine ≡ None) (sym c.self.view_is) c.requires in
    let updates = rw c.unwrap.ensures at c.insert.ensures.updates in
    stored-machine c.self.inside.rules c.args.rule c.push.new.self c.self.inside.rows.rows _ _ _ c.self.invariant new c.in_ok-push.ensures.ok
    (λ m. updates.0 m ∙ ap (λ es. if same_address c.args.rule.machine m then Some c.args.rule else lookup (same_address m) es) c.reserve.ensures.entries)
