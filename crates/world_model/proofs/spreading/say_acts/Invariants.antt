use Rattle.std.proofs.Common.{◌≡◌, ◌++◌}
use Rattle.world_spec.specs.Steps.{act_lines}
use Rattle.world_model.proofs.spreading.say_acts.Given as goal

abbrev pub invariant-loop-act : goal.invariant-loop-act
invariant-loop-act l = l.lines.items ≡ l.initial.lines.items ++ act_lines l.yielded
