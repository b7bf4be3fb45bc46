use Rattle.std.proofs.Common.{subst, ap}
use Rattle.lease_rows.specs.Entries.{RowsAscend}
use Rattle.lease_rows.proofs.Counted.{rows_ascend}
use Rattle.lease_rows.proofs.numbered.NumberedRows.row_at.Goals as goal

pub returns-clause-ascend : goal.returns-clause-ascend
returns-clause-ascend c = subst RowsAscend (ap (λ v. v.rows) c.self.view_is) (rows_ascend c.self.inside.entries.items c.self.invariant.ascend)
