-- A replica's part in the agreement, and the lease table that its log leaves.
use Rattle.std.specs.Prelude.{◌≡◌, ℕ, Bool, true, nat_lt, if◌then◌else◌, List, [], Option, Some, None}
use Rattle.wire_core.specs.declared.entry.Entry.{Entry}
use Rattle.wire_core.specs.declared.entry.Entry.TheVariants as entry
use Rattle.wire_core.specs.declared.rules.LeaseRules.{LeaseRules}
use Rattle.lease_spec.specs.declared.effect.Effect.{Effect}
use Rattle.paxos_spec.specs.Acceptor.{AcceptorState, reach, most_slots}
use Rattle.paxos_spec.specs.Replica.{Out}
use Rattle.paxos_spec.specs.Events.{Replica, after_step}
use Rattle.port_leases.specs.TableState.{TableState, apply_slot}
use Rattle.manager_spec.specs.Manager.{leases_of}

pub record LogState : Type 0 where
  pub rules : LeaseRules
  pub replica : Replica
  pub sound : Bool  -- no call found no memory between the log and the table

-- the table is that of the log
pub record Tied (a : AcceptorState) (t : TableState) : Type 0 where
  pub leases : t.leases ≡ leases_of t.rules a
  pub slots : t.slots ≡ reach a

-- a log of this length has room for what the entry has learned
unfoldable pub HasRoomFor : ℕ → Entry → Type 0
HasRoomFor length (entry.Boot version role index boot) = Unit {0}
HasRoomFor length (entry.Promise ballot) = Unit {0}
HasRoomFor length (entry.Vote ballot value) = Unit {0}
HasRoomFor length (entry.Learn ballot value) = nat_lt length most_slots ≡ true
HasRoomFor length (entry.Epoch epoch) = Unit {0}

-- the same, where there is one
unfoldable pub HasRoom : ℕ → Option Entry → Type 0
HasRoom length None = Unit {0}
HasRoom length (Some e) = HasRoomFor length e

-- the same of a step, where there is one
unfoldable pub Fits : AcceptorState → Option Out → Type 0
Fits a None = Unit {0}
Fits a (Some o) = HasRoom (reach a) o.entry

-- a table after an entry of its log, and what the entry did
unfoldable pub table_with : TableState → Entry → TableState × List Effect
table_with t (entry.Boot version role index boot) = (t, [])
table_with t (entry.Promise ballot) = (t, [])
table_with t (entry.Vote ballot value) = (t, [])
table_with t (entry.Learn ballot value) = apply_slot t value
table_with t (entry.Epoch epoch) = (t, [])

-- the same, where there is one
unfoldable pub table_after : TableState → Option Entry → TableState × List Effect
table_after t None = (t, [])
table_after t (Some e) = table_with t e

-- a table after an entry of the journal: a full log passes over what else is learned
unfoldable pub table_again : TableState → Entry → TableState
table_again t e = if nat_lt t.slots most_slots then (table_with t e).0 else t

-- after a step
abbrev pub stepped : LogState → Out → LogState
stepped l o = record l { replica = after_step l.replica o }
