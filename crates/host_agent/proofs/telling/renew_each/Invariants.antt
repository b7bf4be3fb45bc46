use Rattle.std.proofs.Common.{◌≡◌, ◌++◌, map, take, drop}
use Rattle.agent_spec.specs.Clock.{renewed}
use Rattle.host_agent.proofs.telling.renew_each.Given as goal

abbrev pub invariant-loop-host : goal.invariant-loop-host
invariant-loop-host l =
    l.hosts ≡ map (renewed l.now l.retry) (take l.host-index l.fn.hosts) ++ drop l.host-index l.fn.hosts
