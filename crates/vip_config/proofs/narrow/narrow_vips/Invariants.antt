use Rattle.std.proofs.Common.{◌≡◌, ◌++◌, map}
use Rattle.std.specs.Vec.Iter.{into_iter_items}
use Rattle.wire_core.specs.Members.{Each}
use Rattle.vip_config.specs.Configs.{vip_conf_of}
use Rattle.vip_config.specs.Vips.{HasPorts}
use Rattle.vip_config.proofs.narrow.narrow_vips.Given as goal

abbrev pub invariant-loop-vip : goal.invariant-loop-vip
invariant-loop-vip l = record {
  can_next : (goal.iterator-loop-vip).can_next l.vip-iterator;
  finite : (goal.iterator-loop-vip).is_finite l.vip-iterator;
  so_far : l.confs.items ++ map vip_conf_of (into_iter_items l.vip-iterator) ≡ map vip_conf_of l.fn.vips;
  ports : Each HasPorts (into_iter_items l.vip-iterator);
}
