use Rattle.std.proofs.Common.{rules, nat_lt}
use Rattle.std.proofs.lemmas.List.Sorted.{IsPartitionPoint-from_clause, IsPartitionedBy-ltb}
use Rattle.agent_spec.specs.declared.held.Held.{Held}
use Rattle.agent_ports.specs.Leases.{held_number}
use Rattle.agent_ports.proofs.Ordered.{ascend_by, split_below}
use Rattle.agent_ports.proofs.held.split_point.Goals as goal

pub returns : goal.returns
returns c =
    split_below Held held_number c.args.n c.args.held.now c.partition_point.result c.partition_point.ensures.bound
    (IsPartitionPoint-from_clause (λ (x : Held). nat_lt (held_number x) c.args.n) c.args.held.now c.partition_point.result
    c.partition_point.ensures.partitioned
    (IsPartitionedBy-ltb held_number c.args.held.now c.args.n (ascend_by Held held_number c.args.held.now c.requires))
    (λ a r q k. search rules))
