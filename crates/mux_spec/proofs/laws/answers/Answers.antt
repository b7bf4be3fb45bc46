use Rattle.mux_spec.proofs.Rising.{answers_command}
use Rattle.mux_spec.proofs.laws.answers.Goals as goal

pub returns : goal.returns
returns c = answers_command
