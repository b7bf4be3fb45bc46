use Rattle.std.proofs.Common.{◌≡◌, ◌≤◌, ◌*◌, ◌+◌, drop}
use Rattle.inet_sum.proofs.blocks.block_sum.Given as goal
use Rattle.packet_spec.specs.Folds.{folded, word_sum}

-- what was added, then the words that are left, fold to the sum of all
abbrev pub invariant-loop-eight : goal.invariant-loop-eight
invariant-loop-eight l = record {
  whole : folded (256 * (l.low + l.high) + word_sum (drop (8 * l.eight-index) l.bytes)) ≡ folded (word_sum l.bytes);
  low_room : l.low ≤ 4294967296 * l.eight-index;
  high_room : l.high ≤ 4294967296 * l.eight-index;
}
