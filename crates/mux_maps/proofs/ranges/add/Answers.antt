use Rattle.std.proofs.Common.{◌≡◌, ap, ◌∙◌, is_some, None}
use Rattle.std.specs.Map.{lookup}
use Rattle.wire_core.specs.Same.{same_range}
use Rattle.mux_spec.specs.Rows.{row_at}
use Rattle.mux_maps.proofs.RowLaws.{insert_last, insert_shows}
use Rattle.mux_maps.proofs.ranges.add.Goals as goal

pub returns-clause-shown : goal.returns-clause-shown
unfolding row_at
returns-clause-shown c = λ s.
    ap (λ es. is_some (lookup (same_range s) es)) c.in_ok-insert.ensures.entries
    ∙ insert_shows _ c.equality_is_sameness.ensures.ranges c.args.r (record { n = 0; machine = None }) s c.args.rows.now.entries

pub returns-clause-list : goal.returns-clause-list
unfolding row_at
returns-clause-list c =
    c.in_ok-insert.ensures.entries
    ∙ insert_last _ c.equality_is_sameness.ensures.ranges c.args.r (record { n = 0; machine = None }) c.args.rows.now.entries c.requires
