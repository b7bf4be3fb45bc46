use Rattle.std.proofs.Common.{arith}
use Rattle.lease_rows.proofs.Places.{lacks}
use Rattle.lease_rows.proofs.entries.place_of.Goals as goal
use Rattle.lease_rows.proofs.entries.place_of.Goals.{else-i-entries-via-then-i-entries+else-entries-i, else-i-entries-via-else-i-entries}

pub returns-else-i-entries : goal.returns-else-i-entries
returns-else-i-entries c =
    elim c.else-i-entries.branch [
      | else-i-entries-via-then-i-entries+else-entries-i w ↦ lacks c.args.n c.args.entries.now c.split_point-i.result _ c.requires c.split_point-i.ensures (λ within. w.if-entries-i.false)
      | else-i-entries-via-else-i-entries w ↦ (λ k d within same. lacks c.args.n c.args.entries.now c.split_point-i.result d c.requires c.split_point-i.ensures (λ inside. absurd (omega arith)) k d within same)
    ]
