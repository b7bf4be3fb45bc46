use Rattle.std.proofs.Common.{rules, nat_lt}
use Rattle.std.proofs.lemmas.List.Sorted.{IsPartitionPoint-from_clause, IsPartitionedBy-ltb}
use Rattle.lease_rows.specs.declared.entries.Entry.{Entry}
use Rattle.lease_rows.proofs.Places.{ascend_by, split_below}
use Rattle.lease_rows.proofs.entries.split_point.Goals as goal

pub returns : goal.returns
returns c =
    split_below c.args.n c.args.entries.now c.partition_point.result c.partition_point.ensures.bound
    (IsPartitionPoint-from_clause (λ (e : Entry). nat_lt e.row.n c.args.n) c.args.entries.now c.partition_point.result c.partition_point.ensures.partitioned
    (IsPartitionedBy-ltb (λ (e : Entry). e.row.n) c.args.entries.now c.args.n (ascend_by c.args.entries.now c.requires)) (λ a r q k. search rules))
