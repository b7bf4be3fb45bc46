use Rattle.std.proofs.Common.{take}
use Rattle.disk_model.specs.Overlays.{AreOverlaid}
use Rattle.disk_model.proofs.crash.overlay_all.Given as goal

abbrev pub invariant-loop-range : goal.invariant-loop-range
invariant-loop-range l = AreOverlaid (take l.range-index l.ranges) l.pick l.fn.bytes l.bytes
