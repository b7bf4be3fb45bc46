use Rattle.std.proofs.Common.{◌≡◌, ◌||◌, ◌&&◌, take}
use Rattle.std.specs.List.{list_any}
use Rattle.wire_core.specs.Same.{same_ip}
use Rattle.mux_maps.specs.Entries.{same_pair}
use Rattle.mux_maps.specs.declared.leaving.Pair.{Pair}
use Rattle.mux_maps.proofs.leaving.add_machines.Given as goal

abbrev pub invariant-loop-machine : goal.invariant-loop-machine
invariant-loop-machine l = (x : Pair) → list_any (same_pair x) l.pairs.keys
    ≡ (list_any (same_pair x) l.fn.pairs.keys || (same_ip l.vip x.vip && list_any (same_ip x.machine) (take l.machine-index l.machines)))
