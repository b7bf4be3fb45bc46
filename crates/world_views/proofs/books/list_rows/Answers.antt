use Rattle.std.proofs.Common.{rules, ◌≡◌, ◌∙◌, ◌++◌, ◌∷◌, [], ap}
use Rattle.lease_spec.specs.declared.row.Row.{Row}
use Rattle.std.specs.Prelude.{List}
use Rattle.port_leases.specs.TableState.{rows_above}
use Rattle.world_views.proofs.BookLaws.{walked_all, walked_on}
use Rattle.world_views.proofs.books.list_rows.Goals as goal

pub loop-row-preserved : goal.loop-row-preserved
loop-row-preserved c =
    let walk : rows_above c.args.table.now.leases.rows c.loop-row.above
    ≡ c.in-Some.row ∷ rows_above c.args.table.now.leases.rows c.in-Some.row.n = search rules in
    ap (λ (xs : List Row). xs ++ rows_above c.args.table.now.leases.rows c.in-Some.row.n) c.in_ok-push.ensures.items
    ∙ walked_on c.args.table.now.leases.rows c.loop-row.above c.loop-row.rows.items c.in-Some.row _ walk c.loop-row.invariant

pub returns : goal.returns
returns c =
    let none : rows_above c.args.table.now.leases.rows c.loop-row.above ≡ [] = search rules in
    walked_all c.args.table.now.leases.rows c.loop-row.above c.loop-row.rows.items _ none c.loop-row.invariant
