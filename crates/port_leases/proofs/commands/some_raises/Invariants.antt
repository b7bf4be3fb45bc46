use Rattle.std.proofs.Common.{◌≡◌, false, take}
use Rattle.std.specs.List.{list_any}
use Rattle.port_leases.specs.Store.{may_raise}
use Rattle.port_leases.proofs.commands.some_raises.Given as goal

abbrev pub invariant-loop-i : goal.invariant-loop-i
invariant-loop-i l = list_any (may_raise l.store.leases.known) (take l.i l.value) ≡ false
