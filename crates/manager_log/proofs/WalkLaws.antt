-- What is due of rows in a phase is due of all rows.
use Rattle.std.proofs.Common.{◌≡◌, refl, false, []}
use Rattle.std.specs.List.{flat_map}
use Rattle.vip_config.specs.declared.parts.ConfigParts.{ConfigParts}
use Rattle.vip_config.specs.Leases.{lease_rules_of}
use Rattle.lease_spec.specs.declared.row.Row.{Row}
use Rattle.lease_spec.specs.declared.row.Phase.TheVariants.{BeingLeased, Freeing}
use Rattle.port_leases.specs.TableState.{in_phase, rows_in}
use Rattle.manager_spec.specs.Manager.{Manager, leases}
use Rattle.manager_spec.specs.Proposal.{grant_due, freed_due}
use Rattle.manager_log.proofs.ZeroLaws.{due_in, no_zero}

none_granted : (cfg : ConfigParts) (r : Manager) (row : Row) → in_phase BeingLeased row ≡ false
    → grant_due cfg r row ≡ []
none_granted cfg r row e = rw e refl

pub grants_in : (cfg : ConfigParts) (r : Manager)
    → flat_map (grant_due cfg r) (rows_in (leases cfg r).rows BeingLeased 0)
    ≡ flat_map (grant_due cfg r) (leases cfg r).rows
grants_in cfg r = due_in (grant_due cfg r) BeingLeased (leases cfg r).rows (none_granted cfg r)
    (no_zero (lease_rules_of cfg) r.acceptor)

none_freed : (r : Manager) (row : Row) → in_phase Freeing row ≡ false → freed_due r row ≡ []
none_freed r row e = rw e refl

pub freeds_in : (cfg : ConfigParts) (r : Manager)
    → flat_map (freed_due r) (rows_in (leases cfg r).rows Freeing 0) ≡ flat_map (freed_due r) (leases cfg r).rows
freeds_in cfg r = due_in (freed_due r) Freeing (leases cfg r).rows (none_freed r)
    (no_zero (lease_rules_of cfg) r.acceptor)
