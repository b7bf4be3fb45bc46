use Rattle.mux_spec.proofs.Written.{step_writes}
use Rattle.mux_spec.proofs.laws.entries.Goals as goal

pub returns : goal.returns
returns c = step_writes
