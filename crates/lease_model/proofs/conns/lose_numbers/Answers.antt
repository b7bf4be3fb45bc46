use Rattle.std.proofs.Common.{rules, not, ◌==◌, ℕ}
use Rattle.std.proofs.lemmas.Fn.{filter_same}
use Rattle.lease_model.specs.Books.{row_is_of}
use Rattle.lease_model.specs.Rows.{row_at}
use Rattle.lease_model.proofs.conns.lose_numbers.Goals as goal

pub returns : goal.returns
returns c = filter_same _ (λ (n : ℕ). not (row_is_of c.args.rules.now c.args.agent (row_at c.args.rows.now n))) _ (λ x b f k. search rules) _ _ c.retain.ensures.filtered
