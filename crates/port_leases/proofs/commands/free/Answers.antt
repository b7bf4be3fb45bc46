use Rattle.std.proofs.Common.{◌≡◌, ℕ, Some, sym, subst, ◌∙◌}
use Rattle.lease_spec.specs.Table.{row_at}
use Rattle.lease_rows.proofs.Indexed.{number_found}
use Rattle.port_leases.proofs.commands.free.Goals as goal

pub remove-requires : goal.remove-requires
remove-requires c =
    let found = sym c.row_at.ensures ∙ c.in-Some.is in
    subst (λ (n : ℕ). row_at c.args.store.now.leases.rows n ≡ Some c.in-Some.row) (sym (number_found c.args.store.now.leases.rows c.args.n c.in-Some.row found)) found
