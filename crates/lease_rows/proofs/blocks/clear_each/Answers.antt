use Rattle.lease_spec.specs.Table.{cleared}
use Rattle.lease_rows.specs.Entries.{with_row}
use Rattle.std.proofs.Common.{ap, set, arith, ◌∙◌}
use Rattle.std.proofs.lemmas.List.Edits.{map_over_more}
use Rattle.std.proofs.lemmas.List.{get_or_default}
use Rattle.lease_rows.proofs.blocks.clear_each.Goals as goal

pub loop-e-preserved : goal.loop-e-preserved
loop-e-preserved c =
    ap (set c.loop-e.entries c.loop-e.e-index) c.cleared.ensures
    ∙ map_over_more (with_row (cleared c.args.agent c.args.boot)) c.args.entries.now c.loop-e.entries c.loop-e.e-index _ c.loop-e-test.true c.loop-e.invariant (get_or_default c.loop-e.entries c.loop-e.e-index _ _ (omega arith))
