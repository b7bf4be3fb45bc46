use Rattle.std.proofs.Common.{◌≡◌, map, take}
use Rattle.std.specs.Prelude.{fold}
use Rattle.world_nodes.specs.Disks.{site_of}
use Rattle.world_nodes.specs.Nodes.{longer}
use Rattle.world_nodes.proofs.nodes.longest.Given as goal

abbrev pub invariant-loop-site : goal.invariant-loop-site
invariant-loop-site g l = l.most ≡ fold longer 0 (map site_of (take l.site-index l.fn.nodes.replicas.items))
