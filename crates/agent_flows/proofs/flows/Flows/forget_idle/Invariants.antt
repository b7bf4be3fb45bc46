use Rattle.std.proofs.Common.{◌≡◌, filter, length, not}
use Rattle.agent_spec.specs.Connections.{is_idle}
use Rattle.agent_flows.proofs.flows.Flows.forget_idle.Given as goal

abbrev pub invariant-loop : goal.invariant-loop
invariant-loop l =
    filter (λ c. not (is_idle l.now l.idle c)) l.self ≡ filter (λ c. not (is_idle l.now l.idle c)) l.fn.self

abbrev pub decreases-loop : goal.decreases-loop
decreases-loop l = length (filter (is_idle l.now l.idle) l.self)
