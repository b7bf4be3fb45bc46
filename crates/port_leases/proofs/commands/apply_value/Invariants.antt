use Rattle.std.proofs.Common.{◌≡◌, ◌≤◌, ◌+◌, ◌*◌, ◌++◌, drop, length}
use Rattle.lease_spec.specs.Places.{placed}
use Rattle.lease_spec.specs.Table.{apply}
use Rattle.port_leases.proofs.Folds.{Going}
use Rattle.port_leases.proofs.commands.apply_value.Given as goal

abbrev pub invariant-loop-i : goal.invariant-loop-i
invariant-loop-i l = record {
  rules : l.store.rules ≡ l.initial.store.rules;
  going : Going
      (record {
        leases = (apply l.initial.store.rules (placed l.place l.value) l.initial.store.leases).leases;
        effects = l.initial.effects.effects ++ (apply l.initial.store.rules (placed l.place l.value) l.initial.store.leases).effects;
      })
      l.initial.store.rules (l.place + l.i) (drop l.i l.value) l.store.leases l.effects.effects l.effects.room;
  next : l.store.next ≤ l.place + l.i;
  room : 3 * length (drop l.i l.value) ≤ l.store.room;
}
