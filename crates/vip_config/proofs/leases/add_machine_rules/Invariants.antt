use Rattle.std.proofs.Common.{◌≡◌, ◌++◌, map, take}
use Rattle.vip_config.specs.Leases.{machine_rule}
use Rattle.vip_config.proofs.leases.add_machine_rules.Given as goal

abbrev pub invariant-loop-machine : goal.invariant-loop-machine
invariant-loop-machine l =
    l.rules.items ≡ l.fn.rules.items ++ map (machine_rule l.machines.entries l.vip.address)
    (take l.machine-index l.machine-items)
