use Rattle.std.proofs.Common.{◌≡◌, map, take}
use Rattle.vip_config.specs.Leases.{vip_rule}
use Rattle.vip_config.proofs.leases.make_vip_rules.Given as goal

abbrev pub invariant-loop-vip : goal.invariant-loop-vip
invariant-loop-vip l = l.rules.items ≡ map vip_rule (take l.vip-index l.vips)
