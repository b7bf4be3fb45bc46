use Rattle.std.proofs.Common.{◌≡◌, take}
use Rattle.std.specs.List.{flat_map}
use Rattle.manager_spec.specs.Manager.{act_of}
use Rattle.manager_log.specs.Parts.{with_acts}
use Rattle.manager_log.proofs.saying.add_acts.Given as goal

abbrev pub invariant-loop-effect : goal.invariant-loop-effect
invariant-loop-effect l = l.out ≡ with_acts (flat_map act_of (take l.effect-index l.effects)) l.fn.out
