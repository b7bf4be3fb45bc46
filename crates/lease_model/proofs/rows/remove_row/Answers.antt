use Rattle.std.proofs.Common.{rules, not, ◌==◌, ℕ}
use Rattle.std.proofs.lemmas.Fn.{filter_same}
use Rattle.lease_model.specs.declared.row.BookRow.{BookRow}
use Rattle.lease_model.proofs.rows.remove_row.Goals as goal

pub returns : goal.returns
returns c = filter_same _ (λ (row : BookRow). not (row.n == c.args.n)) _ (λ x b f k. search rules) _ _ c.retain.ensures.filtered
