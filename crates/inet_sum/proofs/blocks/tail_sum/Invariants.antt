use Rattle.std.proofs.Common.{◌≡◌, ◌≤◌, ◌*◌, ◌+◌, length}
use Rattle.packet_spec.specs.Folds.{folded, word_sum}
use Rattle.inet_sum.proofs.blocks.tail_sum.Given as goal

-- what was added, then the words that are left, fold to the sum of all
abbrev pub invariant-loop-word : goal.invariant-loop-word
invariant-loop-word l = record {
  whole : folded (256 * l.sum + word_sum l.left) ≡ folded (word_sum l.bytes);
  room : l.sum + 32768 * length l.left ≤ 32768 * length l.bytes;
}

abbrev pub decreases-loop-word : goal.decreases-loop-word
decreases-loop-word l = length l.left
