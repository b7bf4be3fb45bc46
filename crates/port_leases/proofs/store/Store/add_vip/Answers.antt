use Rattle.std.proofs.Common.{Some, if◌then◌else◌, ap, ◌∙◌}
use Rattle.std.specs.Map.{lookup}
use Rattle.lease_rows.specs.Rows.{same_address}
use Rattle.port_leases.proofs.Stored.{stored-vip}
use Rattle.port_leases.proofs.store.Store.add_vip.Goals as goal

pub invariant_of-self-2 : goal.invariant_of-self-2
invariant_of-self-2 c =
    let updates = rw c.unwrap.ensures at c.insert.ensures.updates in
    stored-vip c.self.inside.rules c.args.rule c.push.new.self c.fill.new.starts c.self.inside.rows.rows _ _ _ c.self.invariant c.in_ok-push.ensures.ok c.fill.ensures
    (λ v. updates.0 v ∙ ap (λ es. if same_address c.args.rule.vip v then Some c.fill.new.starts else lookup (same_address v) es) c.reserve.ensures.entries)
