use Rattle.std.proofs.Common.{take}
use Rattle.indexmap.specs.IndexMap.{get}
use Rattle.wire_core.specs.declared.address.Ip4.{Ip4}
use Rattle.lease_rows.specs.Rows.{same_address}
use Rattle.port_leases.specs.Store.{IsMadeOf}
use Rattle.port_leases.proofs.store.index_vips.Given as goal

abbrev pub invariant-loop-rule : goal.invariant-loop-rule
invariant-loop-rule l = (v : Ip4) → IsMadeOf l.rules l.rows.rows (take l.rule-index l.rules.vips) v (get same_address l.vips v)
