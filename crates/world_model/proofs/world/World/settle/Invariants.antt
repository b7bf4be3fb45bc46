use Rattle.std.proofs.Common.{◌≡◌}
use Rattle.world_nodes.specs.Sites.{deciding}
use Rattle.world_model.specs.Overflows.{settle_overflow}
use Rattle.world_model.specs.Sound.{IsSound, world_of}
use Rattle.world_model.specs.World.{onto, settle}
use Rattle.world_model.proofs.world.World.settle.Given as goal

abbrev pub invariant-loop-left : goal.invariant-loop-left
invariant-loop-left g l = record {
  sound : IsSound g.C.Core.may_open l.self;
  does : onto l.lines.items (settle (deciding g.C.Core.step g.C.Core.written) l.left (world_of l.self))
      ≡ onto l.initial.lines.items (settle (deciding g.C.Core.step g.C.Core.written) l.fn.n (world_of l.initial.self));
  room : settle_overflow (deciding g.C.Core.step g.C.Core.written) l.left (world_of l.self)
      ≡ settle_overflow (deciding g.C.Core.step g.C.Core.written) l.fn.n (world_of l.initial.self);
}

abbrev pub decreases-loop-left : goal.decreases-loop-left
decreases-loop-left g l = l.left
