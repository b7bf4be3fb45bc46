-- The worked run's lines, by computing.
use Rattle.std.proofs.Common.{refl}
use Rattle.node_spec.proofs.OnLiterals.{node_on_literals}
use Rattle.manager_spec.proofs.OnLiterals.{manager_on_literals}
use Rattle.mux_spec.proofs.OnLiterals.{mux_on_literals}
use Rattle.agent_spec.proofs.OnLiterals.{agent_on_literals}
use Rattle.worked_run.proofs.OnLiterals.{below_on_literals, packets_on_literals}
use Rattle.world_spec.proofs.OnLiterals.{world_on_literals}
use Rattle.worked_world.specs.Lines.{WorkedLines}

pub worked_lines : WorkedLines
unfolding node_on_literals manager_on_literals mux_on_literals agent_on_literals below_on_literals packets_on_literals
    world_on_literals
worked_lines = record {
  tick = refl;
  hellos = refl;
  candidacy = refl;
  election = refl;
  request = refl;
  lease = refl;
  reply = refl;
  handing = refl;
}
