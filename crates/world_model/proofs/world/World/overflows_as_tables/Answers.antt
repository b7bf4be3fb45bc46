use Rattle.world_nodes.specs.Sites.{deciding}
use Rattle.world_model.specs.Sound.{world_of}
use Rattle.world_model.proofs.ShownOverflows.{overflows_as_tables}
use Rattle.world_model.proofs.world.World.overflows_as_tables.Goals as goal

pub returns : goal.returns
returns g c =
    overflows_as_tables (deciding g.C.Core.step g.C.Core.written) g.C.Core.opened (world_of c.args.self.now)
    c.args.event.now c.keeps_rules.ensures.owners
