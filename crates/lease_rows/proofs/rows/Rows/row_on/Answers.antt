use Rattle.std.proofs.Common.{sym, ap, ◌∙◌, option_copied}
use Rattle.lease_rows.specs.Entries.{Numbered}
use Rattle.lease_rows.specs.Walks.{row_on}
use Rattle.lease_rows.proofs.Indexed.{on_at}
use Rattle.lease_rows.proofs.rows.Rows.row_on.Goals as goal

pub returns-in-Some : goal.returns-in-Some
returns-in-Some c =
    let number = sym (c.self.invariant.0.numbers c.args.r) ∙ sym c.get.ensures.value ∙ ap option_copied c.in-Some.is in
    c.row_at.ensures.row ∙ on_at c.args.r c.self.inside.rows.rows c.in-Some.n.now c.row_at.ensures.ascend number ∙ ap (λ (v : Numbered). row_on v.rows c.args.r) c.self.view_is
