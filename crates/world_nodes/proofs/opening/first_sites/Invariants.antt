use Rattle.std.proofs.Common.{◌≡◌, map}
use Rattle.world_nodes.specs.Disks.{ArePlaces, site_of}
use Rattle.world_nodes.specs.Firsts.{first_sites, named}
use Rattle.world_nodes.proofs.opening.first_sites.Given as goal

abbrev pub invariant-loop-i : goal.invariant-loop-i
invariant-loop-i g l = record {
  places : ArePlaces l.sites.items;
  sites : map site_of l.sites.items ≡ first_sites g.C.Core.opened l.cfg (named l.kind) l.i;
}
