use Rattle.node_schedule.proofs.Follows.{follow}
use Rattle.node_schedule.proofs.laws.roles_follow.Goals as goal

pub returns : goal.returns
returns c = follow
