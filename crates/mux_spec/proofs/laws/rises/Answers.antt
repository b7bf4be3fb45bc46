use Rattle.mux_spec.proofs.Rising.{rises_step}
use Rattle.mux_spec.proofs.laws.rises.Goals as goal

pub returns : goal.returns
returns c = rises_step
