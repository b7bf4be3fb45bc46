use Rattle.std.proofs.Common.{◌≡◌, map, take}
use Rattle.config_text.specs.declared.agents.Attach.{Attach}
use Rattle.agent_spec.specs.Agent.{new_host}
use Rattle.host_agent.proofs.machines.make_hosts.Given as goal

abbrev pub invariant-loop-machine : goal.invariant-loop-machine
invariant-loop-machine l =
    l.hosts.items ≡ map (λ (m : Attach). new_host m.address) (take l.machine-index l.machines)
