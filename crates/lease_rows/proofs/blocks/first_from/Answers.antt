use Rattle.std.proofs.Common.{sym, ◌∙◌}
use Rattle.lease_rows.proofs.EntryBlocks.{block_none}
use Rattle.lease_rows.proofs.blocks.first_from.Goals as goal

pub loop-k-preserved : goal.loop-k-preserved
loop-k-preserved c =
    c.loop-k.invariant
    ∙ block_none c.args.phase c.args.blocks.now c.args.entries.now c.loop-k.k _ c.requires c.loop-k-test.true (sym c.has.ensures ∙ c.if-has.false)
