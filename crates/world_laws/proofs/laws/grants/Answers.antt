use Rattle.world_laws.proofs.GrantLaws.{grants}
use Rattle.world_laws.proofs.laws.grants.Goals as goal

pub returns : goal.returns
returns c = grants
