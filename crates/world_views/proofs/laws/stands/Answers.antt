use Rattle.node_roles.specs.Roles.{opened, step, written}
use Rattle.node_schedule.specs.Roles.{role_of}
use Rattle.node_schedule.proofs.Follows.{follow}
use Rattle.world_nodes.specs.Sites.{deciding}
use Rattle.world_views.proofs.Playing.{stands_played}
use Rattle.world_views.proofs.laws.stands.Goals as goal

pub returns : goal.returns
returns c = λ cfg sound events.
    stands_played (role_of cfg) (deciding step written) opened cfg (follow cfg) sound events
