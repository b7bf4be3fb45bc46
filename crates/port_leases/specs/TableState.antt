-- What callers see of a lease table, and what a slot does to it.
use Rattle.std.specs.Prelude.{ℕ, ◌+◌, Bool, ◌==◌, List, [], ◌∷◌, ◌++◌, Option, Some, None}
use Rattle.std.specs.List.{list_any}
use Rattle.wire_core.specs.declared.address.Ip4.{Ip4}
use Rattle.wire_core.specs.declared.rules.LeaseRules.{LeaseRules}
use Rattle.wire_core.specs.declared.rules.MachineRule.{MachineRule}
use Rattle.wire_core.specs.declared.rules.VipRule.{VipRule}
use Rattle.wire_core.specs.Commands.{LogCommand}
use Rattle.lease_spec.specs.declared.row.Outcome.{Outcome}
use Rattle.lease_spec.specs.declared.effect.Effect.{Effect}
use Rattle.lease_spec.specs.Places.{slot_commands}
use Rattle.lease_spec.specs.Table.{Done, Last, Leases, apply, no_leases}
pub use Rattle.lease_rows.specs.Walks.{in_phase, onward, onward_all, onward_in, row_above, row_on, rows_above, rows_in, rows_of}

-- The rules, what stands now, and how many slots were applied.
pub record TableState : Type 0 where
  pub rules : LeaseRules
  pub leases : Leases
  pub slots : ℕ

-- no leases and no slots
abbrev pub fresh : LeaseRules → TableState
fresh rules = record { rules = rules; leases = no_leases; slots = 0 }

-- a table after its next slot, and what the slot's commands did
abbrev pub after_slot : TableState → Done → TableState × List Effect
after_slot t done = (record t { leases = done.leases; slots = t.slots + 1 }, done.effects)

-- The next slot: the fold of its commands, on top of what stands.
abbrev pub apply_slot : TableState → List LogCommand → TableState × List Effect
apply_slot t value = after_slot t (apply t.rules (slot_commands t.slots value) t.leases)

abbrev pub outcome_of : Option Last → Option Outcome
outcome_of None = None
outcome_of (Some last) = Some last.outcome

-- boot and seq of a request
abbrev pub pair_of : Option Last → Option (ℕ × ℕ)
pair_of None = None
pair_of (Some last) = Some (last.boot, last.seq)

-- one more VIP
abbrev pub with_vip : LeaseRules → VipRule → LeaseRules
with_vip rules vip = record rules { vips = rules.vips ++ vip ∷ [] }

-- one more machine
abbrev pub with_machine : LeaseRules → MachineRule → LeaseRules
with_machine rules machine = record rules { machines = rules.machines ++ machine ∷ [] }

-- the rules name the VIP
abbrev pub has_vip : LeaseRules → Ip4 → Bool
has_vip rules vip = list_any (λ rule. rule.vip.0 == vip.0) rules.vips
