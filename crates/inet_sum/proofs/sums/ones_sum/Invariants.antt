use Rattle.std.proofs.Common.{◌≡◌, ◌+◌, ◌<◌, length}
use Rattle.packet_spec.specs.Folds.{folded, word_sum}
use Rattle.inet_sum.proofs.sums.ones_sum.Given as goal

-- what was added, then the words that are left, fold to the sum of all
abbrev pub invariant-loop-left : goal.invariant-loop-left
invariant-loop-left l = record {
  whole : folded (l.sum + word_sum l.left) ≡ folded (word_sum l.bytes);
  word : l.sum < 65536;
}

abbrev pub decreases-loop-left : goal.decreases-loop-left
decreases-loop-left l = length l.left
