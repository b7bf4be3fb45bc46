-- The mux in the run, by computing.
use Rattle.std.proofs.Common.{refl}
use Rattle.node_spec.proofs.OnLiterals.{node_on_literals}
use Rattle.mux_spec.proofs.OnLiterals.{mux_on_literals}
use Rattle.worked_run.proofs.OnLiterals.{below_on_literals, packets_on_literals}
use Rattle.worked_run.specs.MuxRun.{MuxLines}

pub mux_lines : MuxLines
unfolding node_on_literals mux_on_literals below_on_literals packets_on_literals
mux_lines = record {
  tick = refl;
  row = refl;
  reply = refl;
}
