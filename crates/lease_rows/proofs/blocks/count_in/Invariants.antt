use Rattle.std.proofs.Common.{◌≡◌, take, count_by}
use Rattle.lease_rows.specs.Blocks.{is_in}
use Rattle.lease_rows.proofs.blocks.count_in.Given as goal

abbrev pub invariant-loop-i : goal.invariant-loop-i
invariant-loop-i l = l.count ≡ count_by (is_in l.phase) (take l.i l.entries)
