-- The host agent in the run, by computing.
use Rattle.std.proofs.Common.{refl}
use Rattle.node_spec.proofs.OnLiterals.{node_on_literals}
use Rattle.agent_spec.proofs.OnLiterals.{agent_on_literals}
use Rattle.worked_run.proofs.OnLiterals.{below_on_literals, packets_on_literals}
use Rattle.worked_run.specs.AgentRun.{AgentLines}

pub agent_lines : AgentLines
unfolding node_on_literals agent_on_literals below_on_literals packets_on_literals
agent_lines = record {
  queued = refl;
  granted = refl;
  handed = refl;
}
