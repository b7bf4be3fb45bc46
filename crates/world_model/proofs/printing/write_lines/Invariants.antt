use Rattle.std.proofs.Common.{◌≡◌, ◌++◌, take}
use Rattle.std.specs.Prelude.{string_bytes}
use Rattle.std.specs.List.{flat_map}
use Rattle.schedule_text.specs.Transcript.{printed_line}
use Rattle.world_model.proofs.printing.write_lines.Given as goal

abbrev pub invariant-loop-line : goal.invariant-loop-line
invariant-loop-line l =
    string_bytes l.out ≡ string_bytes l.initial.out ++ flat_map (printed_line l.cfg) (take l.line-index l.lines)
