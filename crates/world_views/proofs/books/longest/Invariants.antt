use Rattle.std.proofs.Common.{◌≡◌}
use Rattle.world_model.specs.Sound.{world_of}
use Rattle.world_views.specs.Books.{longest_of, site_of}
use Rattle.world_views.proofs.books.longest.Given as goal

abbrev pub invariant-loop-i : goal.invariant-loop-i
invariant-loop-i l = record {
  most : l.most ≡ (longest_of (world_of l.world).nodes.replicas l.i).learned;
  who : site_of (world_of l.world).nodes.replicas l.who ≡ longest_of (world_of l.world).nodes.replicas l.i;
}
