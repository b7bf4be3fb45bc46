use Rattle.std.proofs.Common.{◌≡◌, ◌≤◌, ◌*◌, ◌^◌, map, sum, take}
use Rattle.wire_core.specs.Ranges.{leasable_count}
use Rattle.vip_config.proofs.counts.count_ranges.Given as goal

abbrev pub invariant-loop-vip : goal.invariant-loop-vip
invariant-loop-vip l = record {
  so_far : l.total ≡ sum (map (λ vip. leasable_count l.rules vip.address) (take l.vip-index l.vips));
  bound : l.total ≤ l.vip-index * 2 ^ 32;
}
