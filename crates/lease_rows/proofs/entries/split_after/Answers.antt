use Rattle.std.proofs.Common.{rules, nat_le}
use Rattle.std.proofs.lemmas.List.Sorted.{IsPartitionPoint-from_clause, IsPartitionedBy-leb}
use Rattle.lease_rows.specs.declared.entries.Entry.{Entry}
use Rattle.lease_rows.proofs.Places.{ascend_by, split_up_to}
use Rattle.lease_rows.proofs.entries.split_after.Goals as goal

pub returns : goal.returns
returns c =
    split_up_to c.args.n c.args.entries.now c.partition_point.result c.partition_point.ensures.bound
    (IsPartitionPoint-from_clause (λ (e : Entry). nat_le e.row.n c.args.n) c.args.entries.now c.partition_point.result c.partition_point.ensures.partitioned
    (IsPartitionedBy-leb (λ (e : Entry). e.row.n) c.args.entries.now c.args.n (ascend_by c.args.entries.now c.requires)) (λ a r q k. search rules))
