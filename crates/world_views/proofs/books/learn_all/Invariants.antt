use Rattle.std.proofs.Common.{◌≡◌, take}
use Rattle.node_spec.specs.Bodies.{entries_of}
use Rattle.world_spec.specs.Acts.{learned}
use Rattle.world_views.specs.Books.{learns}
use Rattle.world_views.proofs.books.learn_all.Given as goal

abbrev pub invariant-loop-body : goal.invariant-loop-body
invariant-loop-body l = l.table ≡ learns l.fn.table (learned (entries_of (take l.body-index l.bodies)))
