use Rattle.std.proofs.Common.{sym, ap, ◌∙◌, find}
use Rattle.lease_rows.specs.Entries.{row_of}
use Rattle.lease_rows.proofs.LiveRows.{row_above-split}
use Rattle.lease_rows.proofs.entries.row_above.Goals as goal

pub returns : goal.returns
returns c =
    c.row_of.ensures ∙ ap row_of (c.first_live.ensures ∙ ap (find (λ e. e.live)) c.split_at.ensures.back)
    ∙ sym (row_above-split c.args.n c.args.entries.now c.split_after-i.result c.split_after-i.ensures)
