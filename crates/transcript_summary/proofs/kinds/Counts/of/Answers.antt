use Rattle.std.proofs.Common.{sym, ◌∙◌, arith}
use Rattle.std.specs.Option.{option_copied}
use Rattle.address_text.specs.Fields.{parts_of}
use Rattle.transcript_summary.proofs.LineCounts.{below, counts_in, in_parts, none_more}
use Rattle.transcript_summary.proofs.kinds.Counts.of.Goals as goal

pub noted-counts-requires : goal.noted-counts-requires
noted-counts-requires c =
    below c.loop-left.counts (counts_in (parts_of 10 (option_copied c.loop-left.left))) c.args.text.now (omega arith) c.loop-left.invariant

pub returns : goal.returns
returns c = sym (none_more c.loop-left.counts) ∙ rw c.in_default.is at c.loop-left.invariant ∙ in_parts c.args.text.now
