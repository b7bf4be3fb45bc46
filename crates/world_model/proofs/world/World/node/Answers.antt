use Rattle.std.proofs.Common.{rules, ◌≡◌, true, false}
use Rattle.std.specs.Prelude.{is_some}
use Rattle.world_nodes.specs.Disks.{IsLent}
use Rattle.world_nodes.specs.Nodes.{node_at}
use Rattle.world_model.specs.Sound.{world_of}
use Rattle.world_model.proofs.Standing.{lent_for, up_for}
use Rattle.world_model.proofs.world.World.node.Goals as goal

pub returns-in_default-clause-none : goal.returns-in_default-clause-none
returns-in_default-clause-none g c =
    let up : false ≡ is_some (node_at (world_of c.args.self.now).nodes c.args.who).up = search rules in
    up_for (world_of c.args.self.now) c.args.who false up

pub returns-clause-stands : goal.returns-clause-stands
returns-clause-stands g c =
    let lent : IsLent (node_at (world_of c.args.self.now).nodes c.args.who) c.in-Some.node.now = search rules in
    lent_for (world_of c.args.self.now) c.args.who c.in-Some.node.now lent

pub returns-clause-none : goal.returns-clause-none
returns-clause-none g c =
    let up : true ≡ is_some (node_at (world_of c.args.self.now).nodes c.args.who).up = search rules in
    up_for (world_of c.args.self.now) c.args.who true up
