use Rattle.std.proofs.Common.{◌≡◌, take}
use Rattle.node_spec.specs.Boots.{epoch_of}
use Rattle.node_spec.specs.Bodies.{entries_of}
use Rattle.mux_core.proofs.recover.greatest_epoch.Given as goal

abbrev pub invariant-loop-body : goal.invariant-loop-body
invariant-loop-body l = l.epoch ≡ epoch_of (entries_of (take l.body-index l.bodies))
