use Rattle.std.proofs.Common.{◌≡◌, ◌++◌, take, length}
use Rattle.std.specs.List.{flat_map}
use Rattle.lease_spec.specs.declared.row.Phase.TheVariants.{BeingLeased}
use Rattle.port_leases.specs.TableState.{rows_in}
use Rattle.manager_spec.specs.Manager.{leases}
use Rattle.manager_spec.specs.Proposal.{grant_due}
use Rattle.manager_core.proofs.manager.Manager.add_grants.Given as goal

abbrev pub invariant-loop-self : goal.invariant-loop-self
invariant-loop-self l =
    take 16 (l.value ++ flat_map (grant_due l.fn.self.config l.fn.self.lists)
    (rows_in (leases l.fn.self.config l.fn.self.lists).rows BeingLeased l.above))
    ≡ take 16 (l.fn.value ++ flat_map (grant_due l.fn.self.config l.fn.self.lists) (leases l.fn.self.config l.fn.self.lists).rows)

abbrev pub decreases-loop-self : goal.decreases-loop-self
decreases-loop-self l = length (rows_in (leases l.fn.self.config l.fn.self.lists).rows BeingLeased l.above)
