use Rattle.std.proofs.Common.{take}
use Rattle.wire_core.specs.Same.{same_ip}
use Rattle.vip_config.specs.Ways.{FindsAs, all_leaves}
use Rattle.vip_config.proofs.ways.index_leaving.Given as goal

abbrev pub invariant-loop-vip : goal.invariant-loop-vip
invariant-loop-vip l = FindsAs same_ip l.index.entries (all_leaves (take l.vip-index l.vips))
