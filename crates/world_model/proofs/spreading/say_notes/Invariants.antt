use Rattle.std.proofs.Common.{◌≡◌, ◌++◌}
use Rattle.world_spec.specs.Steps.{note_lines}
use Rattle.world_model.proofs.spreading.say_notes.Given as goal

abbrev pub invariant-loop-note : goal.invariant-loop-note
invariant-loop-note l = l.lines.items ≡ l.initial.lines.items ++ note_lines l.yielded
