use Rattle.std.proofs.Common.{◌≡◌, ◌<◌, ◌≤◌, ◌+◌, length, string_bytes}
use Rattle.std.specs.Option.{option_copied}
use Rattle.address_text.specs.Fields.{parts_of}
use Rattle.plain_schedule.specs.Schedule.{printed, lines_from}
use Rattle.plain_schedule.proofs.replay.play_lines.Given as goal

abbrev pub invariant-loop-left : goal.invariant-loop-left
invariant-loop-left l = record {
  so_far : printed (string_bytes l.out) (lines_from l.state l.number (parts_of 10 (option_copied l.left)))
      ≡ printed (string_bytes l.fn.out) (lines_from l.fn.state 2 (parts_of 10 (option_copied l.rest)));
  room : l.number + length (parts_of 10 (option_copied l.left)) ≤ length (parts_of 10 (option_copied l.rest)) + 2;
  slots : l.state.table.slots < l.number;
}

abbrev pub decreases-loop-left : goal.decreases-loop-left
decreases-loop-left l = length (parts_of 10 (option_copied l.left))
