use Rattle.std.proofs.Common.{◌≡◌, ℕ, ◌<◌, ◌*◌, false, take, drop, length, get_or}
use Rattle.lease_rows.specs.Starts.{any_set}
use Rattle.lease_rows.proofs.starts.sum_up.Given as goal

abbrev pub invariant-loop-block : goal.invariant-loop-block
invariant-loop-block l = record {
  count : length l.blocks ≡ length l.fn.blocks;
  each : (k : ℕ) → k < l.block → get_or l.blocks k false ≡ any_set (take 64 (drop (64 * k) l.flags));
}
