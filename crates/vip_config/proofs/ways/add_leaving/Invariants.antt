use Rattle.std.proofs.Common.{◌++◌, map, take}
use Rattle.wire_core.specs.Same.{same_ip}
use Rattle.vip_config.specs.Ways.{FindsAs}
use Rattle.vip_config.proofs.ways.add_leaving.Given as goal

abbrev pub invariant-loop-machine : goal.invariant-loop-machine
invariant-loop-machine l =
    FindsAs same_ip l.index.entries (l.fn.index.entries ++ map (λ machine. (machine, l.vip)) (take l.machine-index l.machines))
