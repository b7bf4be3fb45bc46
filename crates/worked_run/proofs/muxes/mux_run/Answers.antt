use Rattle.worked_run.proofs.MuxRunComputed.{mux_lines}
use Rattle.worked_run.proofs.muxes.mux_run.Goals as goal

pub returns : goal.returns
returns c = mux_lines
