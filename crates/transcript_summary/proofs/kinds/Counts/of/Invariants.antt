use Rattle.std.proofs.Common.{◌≡◌, length}
use Rattle.std.specs.Option.{option_copied}
use Rattle.address_text.specs.Fields.{parts, parts_of}
use Rattle.transcript_summary.specs.Summary.{added}
use Rattle.transcript_summary.proofs.LineCounts.{counts_in}
use Rattle.transcript_summary.proofs.kinds.Counts.of.Given as goal

abbrev pub invariant-loop-left : goal.invariant-loop-left
invariant-loop-left l = added l.counts (counts_in (parts_of 10 (option_copied l.left))) ≡ counts_in (parts 10 l.text)

abbrev pub decreases-loop-left : goal.decreases-loop-left
decreases-loop-left l = length (parts_of 10 (option_copied l.left))
