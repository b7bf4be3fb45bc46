use Rattle.std.proofs.Common.{rules, nat_lt}
use Rattle.std.proofs.lemmas.List.Sorted.{IsPartitionPoint-from_clause, IsPartitionedBy-ltb}
use Rattle.agent_ports.specs.declared.lease.Lease.{Lease}
use Rattle.agent_ports.specs.Leases.{lease_number}
use Rattle.agent_ports.proofs.Ordered.{ascend_by, split_below}
use Rattle.agent_ports.proofs.choice.first_from.Goals as goal

pub returns : goal.returns
returns c =
    split_below Lease lease_number c.args.below c.args.leases.now c.partition_point.result c.partition_point.ensures.bound
    (IsPartitionPoint-from_clause (λ (x : Lease). nat_lt (lease_number x) c.args.below) c.args.leases.now c.partition_point.result
    c.partition_point.ensures.partitioned
    (IsPartitionedBy-ltb lease_number c.args.leases.now c.args.below (ascend_by Lease lease_number c.args.leases.now c.requires))
    (λ a r q k. search rules))
