use Rattle.std.proofs.Common.{◌≡◌, take}
use Rattle.std.specs.List.{list_any}
use Rattle.vip_config.specs.Serving.{has_snat}
use Rattle.mux_maps.specs.Entries.{same_pair}
use Rattle.mux_maps.specs.declared.leaving.Pair.{Pair}
use Rattle.mux_maps.proofs.leaving.Leaving.new.Given as goal

abbrev pub invariant-loop-vip : goal.invariant-loop-vip
invariant-loop-vip l = (x : Pair) → list_any (same_pair x) l.pairs.keys ≡ has_snat (take l.vip-index l.vips) x.vip x.machine
