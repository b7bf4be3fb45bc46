use Rattle.std.proofs.Common.{◌≡◌, take}
use Rattle.std.specs.List.{flat_map}
use Rattle.agent_spec.specs.Agent.{Host}
use Rattle.agent_spec.specs.Clock.{ask_again}
use Rattle.node_spec.specs.Steps.{outgoing, with_sends}
use Rattle.host_agent.proofs.telling.ask_each.Given as goal

abbrev pub invariant-loop-host : goal.invariant-loop-host
invariant-loop-host l =
    l.step
    ≡ with_sends (flat_map (outgoing l.fn.cfg)
    (flat_map (λ (h : Host). ask_again l.boot l.now l.retry h.machine h.ask) (take l.host-index l.hosts))) l.fn.step
