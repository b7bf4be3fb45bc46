-- What each row leaves as it was, what a row that drops its input still does, and what only rises.
use Rattle.std.specs.Prelude.{◌≡◌, ℕ, ◌≤◌, false, ◌==◌, List, [], ◌∷◌, map, length, None}
use Rattle.wire_core.specs.Members.{Each}
use Rattle.wire_core.specs.Same.{same_range}
use Rattle.wire_core.specs.declared.act.Act.{Act}
use Rattle.wire_core.specs.declared.act.Act.TheVariants.{Hold}
use Rattle.wire_core.specs.declared.address.Ip4.{Ip4}
use Rattle.wire_core.specs.declared.cause.DropCause.{DropCause}
use Rattle.wire_core.specs.declared.cause.DropCause.TheVariants as drop
use Rattle.wire_core.specs.declared.note.Note.{Note}
use Rattle.wire_core.specs.declared.note.Note.TheVariants.{Dropped, Queued}
use Rattle.wire_core.specs.declared.range.Range.{Range}
use Rattle.ipip.specs.Causes.{wrap_cause}
use Rattle.ipip.specs.declared.wrapping.WrapFault.{WrapFault}
use Rattle.node_spec.specs.Turns.{Turn, drop_turn}
use Rattle.agent_spec.specs.declared.connection.Connection.{Connection}
use Rattle.agent_spec.specs.declared.held.Held.{Held}
use Rattle.agent_spec.specs.Agent.{Agent, Host, Traffic, with_traffic}
use Rattle.agent_spec.specs.Connections.{closed, most, private_key}
use Rattle.agent_spec.specs.Ranges.{Ranges, kept_at}
use Rattle.agent_spec.specs.Traffic.{inbound_touched, touched}

-- ---- what stays

-- a held range, without the count of its connections and its idle time
abbrev pub lease_of : Held → ℕ × (Range × Ip4)
lease_of h = (h.n, (h.range, h.machine))

-- The leases are the same, but for counts and idle times.
pub record SameLeases (p q : Ranges) : Type 0 where
  pub held : map lease_of q.held ≡ map lease_of p.held
  pub kept : q.kept ≡ p.kept
  pub returning : q.returning ≡ p.returning

-- the machines of an agent
abbrev pub machines_of : List Host → List Ip4
machines_of hosts = map (λ (h : Host). h.machine) hosts

-- What a machine's packet leaves: the leases, the time, and what is known of replicas; nothing is written.
pub record LeavesLeases (a : Agent) (t : Turn Agent) : Type 0 where
  pub index : t.state.index ≡ a.index
  pub boot : t.state.boot ≡ a.boot
  pub known : t.state.known ≡ a.known
  pub hint : t.state.hint ≡ a.hint
  pub machines : machines_of t.state.hosts ≡ machines_of a.hosts
  pub leases : SameLeases a.traffic.ranges t.state.traffic.ranges
  pub time : t.state.traffic.time ≡ a.traffic.time
  pub entry : t.entry ≡ None

-- What a wrapped packet leaves: all but connections, inbound entries and the counts of ranges; nothing is written.
pub record LeavesHosts (a : Agent) (t : Turn Agent) : Type 0 where
  pub state : t.state ≡ with_traffic a t.state.traffic
  pub leases : SameLeases a.traffic.ranges t.state.traffic.ranges
  pub time : t.state.traffic.time ≡ a.traffic.time
  pub entry : t.entry ≡ None

-- What an answer of a replica leaves: the time, and who its machines are; nothing is written.
pub record LeavesMachines (a : Agent) (t : Turn Agent) : Type 0 where
  pub index : t.state.index ≡ a.index
  pub boot : t.state.boot ≡ a.boot
  pub machines : machines_of t.state.hosts ≡ machines_of a.hosts
  pub time : t.state.traffic.time ≡ a.traffic.time
  pub entry : t.entry ≡ None

-- What a Redirect leaves: all but connections and inbound entries; nothing is written, done or sent.
pub record LeavesAllButPeers (a : Agent) (t : Turn Agent) : Type 0 where
  pub state : t.state
      ≡ with_traffic a (record a.traffic { conns = t.state.traffic.conns; inbound = t.state.traffic.inbound })
  pub entry : t.entry ≡ None
  pub acts : t.acts ≡ []

-- What the clock leaves: what is known of replicas, and who its machines are; nothing is written or noted.
pub record LeavesKnown (a : Agent) (t : Turn Agent) : Type 0 where
  pub index : t.state.index ≡ a.index
  pub boot : t.state.boot ≡ a.boot
  pub known : t.state.known ≡ a.known
  pub hint : t.state.hint ≡ a.hint
  pub machines : machines_of t.state.hosts ≡ machines_of a.hosts
  pub entry : t.entry ≡ None
  pub notes : t.notes ≡ []

-- ---- what is dropped

-- no two machines of a list have one address
abbrev pub AreOthers : List Ip4 → Type 0
AreOthers [] = Unit {0}
AreOthers (x ∷ xs) = Each (λ y. (x.0 == y.0) ≡ false) xs × AreOthers xs

-- a packet is held
abbrev pub IsHeld : Note → Type 0
IsHeld (Queued machine count) = Unit {0}
IsHeld _ = ⊥

-- A machine's packet leaves or is held; or it is dropped, and then nothing else is done, but that the connection or the
-- inbound entry was used now of one that can't be wrapped to its peer.
pub data MachineDrops (a : Agent) (t : Turn Agent) : Type 0 where
  Passed : Each IsHeld t.notes → MachineDrops a t
  DroppedAtOnce : (cause : DropCause) → t ≡ drop_turn a cause → MachineDrops a t
  ConnUsed : (x : Connection) (fault : WrapFault)
      → t ≡ drop_turn (with_traffic a (touched a.traffic x)) (wrap_cause fault) → MachineDrops a t
  EntryUsed : (x : Connection) (fault : WrapFault)
      → t ≡ drop_turn (with_traffic a (inbound_touched a.traffic x)) (wrap_cause fault) → MachineDrops a t

-- A wrapped packet is handed; or it is dropped, and then nothing else is done, but that another machine's entry left
-- where as many are kept beside it as fit.
pub data WrappedDrops (a : Agent) (t : Turn Agent) : Type 0 where
  Handed : t.notes ≡ [] → WrappedDrops a t
  RefusedAtOnce : (cause : DropCause) → t ≡ drop_turn a cause → WrappedDrops a t
  EntryLeft : (x : Connection) → most ≤ length (closed (private_key x) a.traffic.inbound)
      → t
      ≡ drop_turn (with_traffic a (record a.traffic { inbound = closed (private_key x) a.traffic.inbound }))
      drop.TableFull
      → WrappedDrops a t

-- An answer of a replica is dropped, and then nothing else is done; a Grant is taken, and then a range is held; a
-- Denied is taken, and then each held packet is dropped and the traffic stays; or nothing is noted.
pub data AnswerDrops (a : Agent) (t : Turn Agent) : Type 0 where
  NotTaken : (cause : DropCause) → t ≡ drop_turn a cause → AnswerDrops a t
  Holds : (n : ℕ) (more : List Act) → t.acts ≡ Hold n ∷ more → AnswerDrops a t
  Denies : Each (λ note. note ≡ Dropped drop.Denied) t.notes → t.state.traffic ≡ a.traffic → AnswerDrops a t
  NotesNothing : t.notes ≡ [] → AnswerDrops a t

-- A Redirect is dropped, and then nothing else is done; or nothing is noted.
pub data RedirectDrops (a : Agent) (t : Turn Agent) : Type 0 where
  RedirectRefused : (cause : DropCause) → t ≡ drop_turn a cause → RedirectDrops a t
  RedirectTaken : t.notes ≡ [] → RedirectDrops a t

-- ---- how much is kept

-- At most 65,536 connections are kept, and as many inbound entries.
pub record Fits (t : Traffic) : Type 0 where
  pub conns : length t.conns ≤ most
  pub inbound : length t.inbound ≤ most

-- ---- held ranges

-- The number of a lease and its range aren't those of any of a list.
abbrev pub IsOther : ℕ × (Range × Ip4) → ℕ × (Range × Ip4) → Type 0
IsOther l m = ((l.0 == m.0) ≡ false) × (same_range l.1.0 m.1.0 ≡ false)

-- no two leases of a list have one number, and no two one range
abbrev pub AreApart : List (ℕ × (Range × Ip4)) → Type 0
AreApart [] = Unit {0}
AreApart (l ∷ ls) = Each (IsOther l) ls × AreApart ls

-- No two held ranges are one range, and no two have one number.
abbrev pub HeldApart : Ranges → Type 0
HeldApart p = AreApart (map lease_of p.held)

-- The kept number of no range falls.
abbrev pub KeptRise : Ranges → Ranges → Type 0
KeptRise p q = (r : Range) → kept_at p.kept r ≤ kept_at q.kept r
