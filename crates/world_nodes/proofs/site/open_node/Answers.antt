use Rattle.world_nodes.proofs.Fulls.{open_fits}
use Rattle.world_nodes.proofs.site.open_node.Goals as goal

pub returns-in-Ok-clause-full : goal.returns-in-Ok-clause-full
returns-in-Ok-clause-full g c =
    open_fits c.args.who c.args.a c.requires.holds c.args.cfg.now c.in-Ok.node.journal.first g.C.Core.opened
    c.in-Ok.node.core c.in-Ok.node.journal.length c.in-Ok.ensures.with
