-- The table's parts as one value.
use Rattle.std.specs.Prelude.{◌≡◌, ℕ, ◌+◌, ◌*◌, ◌<◌, ◌≤◌, ◌==◌, Bool, true, false, nat_lt, List, map, length, get_or, Option, Some, None}
use Rattle.std.specs.List.{list_any}
use Rattle.wire_core.specs.declared.address.Ip4.{Ip4}
use Rattle.wire_core.specs.declared.rules.LeaseRules.{LeaseRules}
use Rattle.wire_core.specs.declared.rules.MachineRule.{MachineRule}
use Rattle.wire_core.specs.declared.rules.VipRule.{VipRule}
use Rattle.wire_core.specs.Ranges.{range_at}
use Rattle.lease_spec.specs.declared.row.Row.{Row}
use Rattle.lease_spec.specs.Free.{is_free}
use Rattle.lease_spec.specs.Table.{Done, Known, Last, Leases, decide, known_boot, next as nexts, raise_known, rule_of}
use Rattle.wire_core.specs.Commands.{LogCommand, Reserve, Granted, Release, Freed, Up}
use Rattle.port_leases.specs.declared.requests.Request.{Request}
use Rattle.port_leases.specs.Requests.{last_with}
use Rattle.lease_rows.specs.Starts.{first_flag}
use Rattle.port_leases.specs.TableState.{has_vip}

-- The rules, what stands now, the least number that a new row may have, and for how many rows, agents and machines
-- there is room without memory.
pub record StoreState : Type 0 where
  pub rules : LeaseRules
  pub leases : Leases
  pub next : ℕ
  pub room : ℕ

abbrev pub known_entry : ℕ × ℕ → Known
known_entry e = record { agent = e.0; boot = e.1 }

abbrev pub known_of : List (ℕ × ℕ) → List Known
known_of entries = map known_entry entries

abbrev pub last_entry : Ip4 × Request → Last
last_entry e = last_with e.0 e.1

abbrev pub lasts_of : List (Ip4 × Request) → List Last
lasts_of entries = map last_entry entries

-- the flags are those of the VIP's free ranges
pub record AreFree (rules : LeaseRules) (rows : List Row) (vip : Ip4) (flags : List Bool) : Type 0 where
  pub named : has_vip rules vip ≡ true
  pub count : length flags ≡ 8192
  pub each : (k : ℕ) → k < length flags → get_or flags k false ≡ is_free rules rows (range_at vip (8 * k))

-- the free starts of a VIP, where the rules name it
abbrev pub IsFreeOf : LeaseRules → List Row → Ip4 → Option (List Bool) → Type 0
IsFreeOf rules rows vip None = has_vip rules vip ≡ false
IsFreeOf rules rows vip (Some flags) = AreFree rules rows vip flags

-- Machines and free starts are as the rules and the rows have them.
pub record IsStored (rules : LeaseRules) (rows : List Row)
    (rule : Ip4 → Option MachineRule) (free : Ip4 → Option (List Bool)) : Type 0 where
  pub machines : (machine : Ip4) → rule machine ≡ rule_of rules machine
  pub vips : (vip : Ip4) → IsFreeOf rules rows vip (free vip)

-- the least free start
abbrev pub first_of : Option (List Bool) → Option ℕ
first_of None = None
first_of (Some flags) = first_flag 8 0 flags

-- a request that has an effect: its agent's boot is known from then on, and it is decided
abbrev pub request : LeaseRules → ℕ → ℕ → MachineRule → ℕ → Leases → Done
request rules place boot rule seq t = nexts (raise_known rule.agent boot t) (decide rules place boot rule seq)

-- One command is done, in the room that was kept for it.
pub record Does (old new : StoreState) (done : Done) : Type 0 where
  pub rules : new.rules ≡ old.rules
  pub leases : new.leases ≡ done.leases
  pub room : old.room ≤ new.room + 3

-- the free starts of a VIP, where one of these rules names it
abbrev pub IsMadeOf : LeaseRules → List Row → List VipRule → Ip4 → Option (List Bool) → Type 0
IsMadeOf rules rows vips vip None = list_any (λ rule. rule.vip.0 == vip.0) vips ≡ false
IsMadeOf rules rows vips vip (Some flags) = AreFree rules rows vip flags

-- the command has a boot above the agent's known one
abbrev pub may_raise : List Known → LogCommand → Bool
may_raise known (Reserve agent boot machine seq) = nat_lt (known_boot known agent) boot
may_raise known (Granted n muxes) = false
may_raise known (Release n) = false
may_raise known (Freed n) = false
may_raise known (Up agent boot) = nat_lt (known_boot known agent) boot
