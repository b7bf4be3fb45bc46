use Rattle.std.proofs.Common.{◌≡◌, take}
use Rattle.std.specs.List.{flat_map}
use Rattle.vip_config.specs.Leases.{machine_rules}
use Rattle.vip_config.proofs.leases.make_machine_rules.Given as goal

abbrev pub invariant-loop-vip : goal.invariant-loop-vip
invariant-loop-vip l = l.rules.items ≡ flat_map (machine_rules l.machines.entries) (take l.vip-index l.vips)
