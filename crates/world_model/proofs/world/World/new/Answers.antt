use Rattle.std.proofs.Common.{rules}
use Rattle.world_nodes.specs.Nodes.{nodes_of}
use Rattle.world_nodes.specs.Sites.{deciding}
use Rattle.world_model.proofs.Standing.{stands_at_first}
use Rattle.world_model.proofs.world.World.new.Goals as goal

pub returns-clause-stands : goal.returns-clause-stands
returns-clause-stands g c =
    stands_at_first (deciding g.C.Core.step g.C.Core.written) g.C.Core.opened c.args.cfg (nodes_of c.in_ok-nodes.nodes)
    c.new.result c.keeps_rules.ensures.lengths c.in_ok-nodes.ensures.first (search rules)
