use Rattle.std.proofs.Common.{rules, ◌≡◌, Some, None}
use Rattle.std.specs.Prelude.{slice_get}
use Rattle.world_spec.specs.Views.{row_of}
use Rattle.world_views.proofs.Walking.{rows_last, rows_next}
use Rattle.world_views.proofs.muxes.add_rows.Goals as goal

pub returns-in_default : goal.returns-in_default
returns-in_default c =
    let none : slice_get c.args.mux.now.lists.rows c.loop-i.i ≡ None = search rules in
    rows_last (λ x. row_of c.args.mux.now.lists x.0 x.1.n x.1.machine) c.args.mux.now.lists.rows c.loop-i.i c.args.list.now.items
    c.loop-i.list.items none c.loop-i.invariant

pub loop-i-preserved : goal.loop-i-preserved
loop-i-preserved c =
    let some : slice_get c.args.mux.now.lists.rows c.loop-i.i ≡ Some (c.in-Some.range, c.in-Some.kept) = search rules in
    rows_next (λ x. row_of c.args.mux.now.lists x.0 x.1.n x.1.machine) c.args.mux.now.lists.rows c.loop-i.i
    (c.in-Some.range, c.in-Some.kept) c.args.list.now.items c.loop-i.list.items c.add_row.new.list.items some
    c.in_ok-add_row.ensures c.loop-i.invariant
