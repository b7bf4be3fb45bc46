use Rattle.std.proofs.Common.{sym, subst, ◌∙◌}
use Rattle.lease_rows.specs.Entries.{IsPlace}
use Rattle.lease_rows.proofs.LiveRows.{row_at-has, row_at-lacks}
use Rattle.lease_rows.proofs.entries.row_at.Goals as goal

pub returns-in-Some : goal.returns-in-Some
returns-in-Some c =
    let at = subst (IsPlace c.args.n c.args.entries.now) c.in-Some.is c.place_of.ensures in
    c.live_row.ensures ∙ sym (row_at-has c.args.n c.args.entries.now c.in-Some.i _ c.requires at)

pub returns-in-None : goal.returns-in-None
returns-in-None c =
    sym (row_at-lacks c.args.n c.args.entries.now (subst (IsPlace c.args.n c.args.entries.now) c.in-None.is c.place_of.ensures))
