use Rattle.std.proofs.Common.{◌≡◌, [], fold, take}
use Rattle.host_agent.specs.Hosts.{with_address}
use Rattle.host_agent.proofs.machines.index_machines.Given as goal

abbrev pub invariant-loop-machine : goal.invariant-loop-machine
invariant-loop-machine l = l.index.keys ≡ fold with_address [] (take l.machine-index l.machines)
