use Rattle.disk_model.specs.Overlays.{IsOverlaid}
use Rattle.disk_model.proofs.crash.overlay.Given as goal

abbrev pub invariant-loop-i : goal.invariant-loop-i
invariant-loop-i l = IsOverlaid l.from l.i l.pick l.fn.bytes l.bytes
