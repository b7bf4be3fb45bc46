use Rattle.std.proofs.Common.{◌≡◌, ◌≤◌, ◌+◌, length}
use Rattle.std.specs.Option.{option_copied}
use Rattle.address_text.specs.Fields.{parts, parts_of}
use Rattle.node_schedule.specs.Halves.{dashes_from}
use Rattle.node_schedule.proofs.Lines.{total}
use Rattle.node_schedule.proofs.text.dashes_at.Given as goal

abbrev pub invariant-loop-left : goal.invariant-loop-left
invariant-loop-left l = record {
  so_far : dashes_from l.at (parts_of 10 (option_copied l.left)) ≡ dashes_from 0 (parts 10 l.text);
  within : l.at + total (parts_of 10 (option_copied l.left)) ≤ length l.text + 1;
}

abbrev pub decreases-loop-left : goal.decreases-loop-left
decreases-loop-left l = length (parts_of 10 (option_copied l.left))
