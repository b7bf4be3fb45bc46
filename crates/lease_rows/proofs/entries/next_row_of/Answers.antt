use Rattle.std.proofs.Common.{sym, ap, ◌∙◌, ◌==◌, ◌&&◌, find}
use Rattle.lease_rows.specs.declared.entries.Entry.{Entry}
use Rattle.lease_rows.specs.Entries.{row_of}
use Rattle.lease_rows.proofs.Walks.{next_passing-split}
use Rattle.lease_rows.proofs.entries.next_row_of.Goals as goal

pub returns : goal.returns
returns c =
    let of_machine = λ (e : Entry). e.live && (e.row.machine.0 == c.args.machine.0) in
    c.row_of.ensures ∙ ap row_of (c.first_live_of.ensures ∙ ap (find of_machine) c.split_at.ensures.back)
    ∙ sym (next_passing-split (λ row. row.machine.0 == c.args.machine.0) c.args.above c.args.entries.now c.split_after-i.result c.split_after-i.ensures)
