use Rattle.std.proofs.Common.{◌≡◌, ◌≤◌, ◌+◌, length}
use Rattle.node_spec.specs.Steps.{turned}
use Rattle.node_spec.specs.Turns.{each}
use Rattle.agent_spec.specs.Answers.{retry}
use Rattle.host_agent.specs.Seen.{as_is, site}
use Rattle.host_agent.proofs.grant.retry_each.Given as goal

abbrev pub invariant-loop-bytes : goal.invariant-loop-bytes
invariant-loop-bytes l = record {
  turn : turned as_is l.cfg l.step (each (retry l.cfg) l.waiting (site l.traffic l.host))
      ≡ turned as_is l.fn.cfg l.fn.step (each (retry l.fn.cfg) l.fn.waiting (site l.fn.traffic l.fn.host));
  cfg : l.cfg ≡ l.fn.cfg;
  few : length l.host.queue + length l.waiting ≤ 64;
  machine : l.host.machine ≡ l.fn.host.machine;
}

abbrev pub decreases-loop-bytes : goal.decreases-loop-bytes
decreases-loop-bytes l = length l.waiting
