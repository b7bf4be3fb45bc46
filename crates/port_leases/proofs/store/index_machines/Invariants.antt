use Rattle.std.proofs.Common.{◌≡◌, ◌==◌, find, take}
use Rattle.indexmap.specs.IndexMap.{get}
use Rattle.wire_core.specs.declared.address.Ip4.{Ip4}
use Rattle.lease_rows.specs.Rows.{same_address}
use Rattle.port_leases.proofs.store.index_machines.Given as goal

abbrev pub invariant-loop-rule : goal.invariant-loop-rule
invariant-loop-rule l = (m : Ip4) → get same_address l.machines m ≡ find (λ rule. rule.machine.0 == m.0) (take l.rule-index l.rules)
