use Rattle.std.proofs.Common.{◌≡◌, ◌≤◌, ◌++◌, drop}
use Rattle.std.specs.Prelude.{string_bytes}
use Rattle.world_nodes.specs.Sites.{deciding}
use Rattle.world_model.specs.Runs.{Passed, overflow_left, steps_left, text_left}
use Rattle.world_model.specs.Sound.{IsSound, world_of}
use Rattle.world_model.proofs.writing.write_run.Given as goal

abbrev pub invariant-loop-more : goal.invariant-loop-more
invariant-loop-more g l = record {
  sound : IsSound g.C.Core.may_open l.world;
  passed : Passed (g.K.Sink.written l.fn.out) (g.K.Sink.written l.out)
      (string_bytes l.text ++ text_left (deciding g.C.Core.step g.C.Core.written) g.C.Core.opened l.cfg
      (world_of l.world) l.progress.left (drop l.progress.at l.events))
      (text_left (deciding g.C.Core.step g.C.Core.written) g.C.Core.opened l.cfg (world_of l.fn.world) 0 l.events);
  room : overflow_left (deciding g.C.Core.step g.C.Core.written) g.C.Core.opened (world_of l.world) l.progress.left
      (drop l.progress.at l.events)
      ≡ overflow_left (deciding g.C.Core.step g.C.Core.written) g.C.Core.opened (world_of l.fn.world) 0 l.events;
  later : g.K.Sink.faults l.fn.out ≤ g.K.Sink.faults l.out;
}

abbrev pub decreases-loop-more : goal.decreases-loop-more
decreases-loop-more g l = steps_left l.progress l.events
