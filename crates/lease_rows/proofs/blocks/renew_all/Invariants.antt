use Rattle.std.proofs.Common.{◌≡◌, ℕ, ◌<◌, ◌≤◌, ◌+◌, ◌*◌, length, take, drop, get_or, vec_capacity}
use Rattle.lease_rows.specs.declared.blocks.Block.{Block}
use Rattle.lease_rows.specs.Blocks.{block_of}
use Rattle.lease_rows.proofs.blocks.renew_all.Given as goal

abbrev pub invariant-loop-number : goal.invariant-loop-number
invariant-loop-number l = record {
  covers : length l.entries ≤ 64 * length l.blocks.items;
  few : 64 * length l.blocks.items < length l.entries + 64;
  all : l.number-end ≡ length l.blocks.items;
  len : length l.blocks.items ≤ length l.fn.blocks.items;
  capacity : vec_capacity l.blocks ≡ vec_capacity l.fn.blocks;
  each : (b : ℕ) (d : Block) → b < l.number → get_or l.blocks.items b d ≡ block_of (take 64 (drop (64 * b) l.entries));
}
