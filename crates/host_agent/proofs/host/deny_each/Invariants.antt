use Rattle.std.proofs.Common.{◌≡◌, length}
use Rattle.host_agent.specs.Retries.{with_denials}
use Rattle.host_agent.proofs.host.deny_each.Given as goal

abbrev pub invariant-loop-packet : goal.invariant-loop-packet
invariant-loop-packet l = with_denials l.queue l.step ≡ with_denials l.fn.queue l.fn.step

abbrev pub decreases-loop-packet : goal.decreases-loop-packet
decreases-loop-packet l = length l.queue
