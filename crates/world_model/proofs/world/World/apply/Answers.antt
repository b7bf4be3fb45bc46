use Rattle.std.proofs.Common.{rules, ◌≡◌}
use Rattle.world_nodes.specs.Sites.{deciding}
use Rattle.world_model.specs.Sound.{world_of}
use Rattle.world_model.specs.World.{applied}
use Rattle.world_model.proofs.Standing.{stands_after}
use Rattle.world_model.proofs.world.World.apply.Goals as goal

pub returns-clause-stands : goal.returns-clause-stands
returns-clause-stands g c =
    let is : (world_of c.happen.new.self, c.from_vec.result)
    ≡ applied (deciding g.C.Core.step g.C.Core.written) g.C.Core.opened (world_of c.args.self.now) c.args.event.now =
    search rules in
    stands_after (deciding g.C.Core.step g.C.Core.written) g.C.Core.opened (world_of c.args.self.now)
    (world_of c.happen.new.self) c.args.event.now c.from_vec.result c.keeps_rules.ensures.owners is
