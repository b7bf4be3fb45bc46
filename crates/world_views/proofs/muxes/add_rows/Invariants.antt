use Rattle.std.proofs.Common.{◌≡◌, ◌++◌, take}
use Rattle.std.specs.List.{flat_map}
use Rattle.world_spec.specs.Views.{row_of}
use Rattle.world_views.proofs.muxes.add_rows.Given as goal

abbrev pub invariant-loop-i : goal.invariant-loop-i
invariant-loop-i l =
    l.list.items
    ≡ l.fn.list.items
    ++ flat_map (λ x. row_of l.mux.lists x.0 x.1.n x.1.machine) (take l.i l.mux.lists.rows)
