use Rattle.std.proofs.Common.{◌≡◌, ◌<◌, ◌≤◌, ◌+◌, ◌*◌, ◌++◌, string_bytes}
use Rattle.rand_pcg.specs.Pcg.{pcg32}
use Rattle.generated_schedule.specs.Generated.{lines_from}
use Rattle.generated_schedule.proofs.text.append_lines.Given as goal

abbrev pub invariant-loop-left : goal.invariant-loop-left
invariant-loop-left l = record {
  so_far : string_bytes l.out ++ lines_from pcg32 l.left l.time l.words ≡ string_bytes l.fn.out ++ lines_from pcg32 l.count 1000 l.fn.start;
  times : l.time + 100 * l.left ≤ 1000 + 100 * l.count;
}

abbrev pub decreases-loop-left : goal.decreases-loop-left
decreases-loop-left l = l.left
