-- The worked run's lines.
use Rattle.worked_world.proofs.Computed.{worked_lines}
use Rattle.worked_world.proofs.laws.worked_transcript.Goals as goal

pub returns : goal.returns
returns c = worked_lines
