use Rattle.std.proofs.Common.{is_some, not, ap, ◌∙◌}
use Rattle.lease_spec.specs.Free.{has_no_row, same_range}
use Rattle.lease_rows.specs.Entries.{Numbered}
use Rattle.lease_rows.proofs.Indexed.{found_any}
use Rattle.lease_rows.proofs.rows.Rows.has_row.Goals as goal

pub returns : goal.returns
returns c =
    ap not (c.contains_key.ensures ∙ ap is_some (c.self.invariant.0.numbers c.args.r) ∙ found_any (λ row. same_range row.range c.args.r) c.self.inside.rows.rows)
    ∙ ap (λ (v : Numbered). has_no_row v.rows c.args.r) c.self.view_is
