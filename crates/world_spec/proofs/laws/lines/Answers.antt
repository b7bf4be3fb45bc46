-- What lines say was sent.
use Rattle.world_spec.proofs.Firsts.{posts_its_lines}
use Rattle.world_spec.proofs.laws.lines.Goals as goal

pub returns : goal.returns
returns c = posts_its_lines
