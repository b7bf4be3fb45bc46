use Rattle.std.proofs.Common.{◌+◌, sym, ap, ◌∙◌, subst}
use Rattle.lease_rows.specs.Entries.{SplitsAt, row_of}
use Rattle.lease_rows.specs.Walks.{in_phase}
use Rattle.lease_rows.proofs.Walks.{next_passing-split}
use Rattle.lease_rows.proofs.entries.next_in.Goals as goal

pub returns : goal.returns
returns c =
    let split = subst (λ es. SplitsAt (c.args.above + 1) es c.split_after-i.result) c.as_slice.ensures.entries c.split_after-i.ensures in
    c.row_of.ensures ∙ ap row_of c.first_in.ensures ∙ sym (next_passing-split (in_phase c.args.phase) c.args.above c.args.entries.now.items c.split_after-i.result split)
