use Rattle.std.proofs.Common.{ap, set, arith, ◌∙◌}
use Rattle.std.proofs.lemmas.List.Edits.{map_over_more}
use Rattle.std.proofs.lemmas.List.{get_or_default}
use Rattle.lease_model.specs.Rows.{at_phase}
use Rattle.lease_model.proofs.rows.move_row.Goals as goal

pub loop-row-preserved : goal.loop-row-preserved
loop-row-preserved c =
    ap (set c.loop-row.rows c.loop-row.row-index) c.at_phase.ensures
    ∙ map_over_more (at_phase c.args.n c.args.phase) c.args.rows.now c.loop-row.rows c.loop-row.row-index _
    c.loop-row-test.true c.loop-row.invariant (get_or_default c.loop-row.rows c.loop-row.row-index _ _ (omega arith))
