use Rattle.std.proofs.Common.{◌≡◌, ◌*◌, drop, find}
use Rattle.lease_rows.specs.Blocks.{is_in}
use Rattle.lease_rows.proofs.blocks.first_from.Given as goal

abbrev pub invariant-loop-k : goal.invariant-loop-k
invariant-loop-k l = find (is_in l.phase) (drop (64 * l.number) l.entries) ≡ find (is_in l.phase) (drop (64 * l.k) l.entries)
