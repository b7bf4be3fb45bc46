-- Ranges that are full for a remote end: each port carries a connection to it, so a look for a free port passes them.
use Rattle.std.specs.Prelude.{◌≡◌, ◌⊎◌, ℕ, ◌+◌, ◌-◌, ◌<◌, ◌≤◌, ◌==◌, ◌&&◌, Bool, true, false, List, Option, Some, None, is_some, get_or, IfSome}
use Rattle.std.specs.Prelude.{unwrap_or}
use Rattle.indexmap.specs.IndexMap.{get}
use Rattle.wire_core.specs.declared.address.Ip4.{Ip4}
use Rattle.wire_core.specs.declared.flow.FlowKey.{FlowKey}
use Rattle.wire_core.specs.Members.{Each}
use Rattle.wire_core.specs.Same.{same_ip, same_proto}
use Rattle.agent_spec.specs.declared.connection.Connection.{Connection}
use Rattle.agent_spec.specs.declared.held.Held.{Held}
use Rattle.agent_spec.specs.Connections.{by_public}
use Rattle.agent_ports.specs.declared.full.FullRanges.{FullRanges}
use Rattle.agent_ports.specs.declared.lease.Lease.{Lease}
use Rattle.agent_ports.specs.declared.remote_end.RemoteEnd.{RemoteEnd}
use Rattle.agent_ports.specs.Leases.{is_of, lease_of, port_at}

-- the same machine, VIP, transport and remote end
abbrev pub same_end : RemoteEnd → RemoteEnd → Bool
same_end a b =
    same_ip a.machine b.machine
    && (same_ip a.vip b.vip && (same_ip a.remote b.remote && ((a.rport == b.rport) && same_proto a.proto b.proto)))

-- where a machine's packets with this key go, through this VIP
abbrev pub end_of : FlowKey → Ip4 → RemoteEnd
end_of key vip = record { machine = key.src; vip = vip; remote = key.dst; rport = key.dport; proto = key.proto }

-- where a connection goes
abbrev pub end_of_connection : Connection → RemoteEnd
end_of_connection c =
    record { machine = c.machine; vip = c.vip; remote = c.remote; rport = c.rport; proto = c.proto }

-- the public key of what leaves from a port
abbrev pub public_at : RemoteEnd → ℕ → FlowKey
public_at e port = record { src = e.vip; dst = e.remote; sport = port; dport = e.rport; proto = e.proto }

-- some connection leaves from the port to the remote end
abbrev pub is_taken : List Connection → RemoteEnd → ℕ → Bool
is_taken conns e port = is_some (by_public (public_at e port) conns)

-- it is the machine's, in this range
abbrev pub is_own : RemoteEnd → ℕ → Option Connection → Bool
is_own e n None = false
is_own e n (Some c) = (c.n == n) && same_ip c.machine e.machine

-- the i-th port of a range carries a connection of the machine in this range
abbrev pub carries : List Connection → RemoteEnd → Lease → ℕ → Bool
carries conns e l i = is_own e l.n (by_public (public_at e (port_at l i).1) conns)

-- each port of the range does
abbrev pub IsFull : List Connection → RemoteEnd → Lease → Type 0
IsFull conns e l = (i : ℕ) → i < 8 → carries conns e l i ≡ true

-- the leases before a place are full
abbrev pub FrontFull : List Connection → RemoteEnd → List Lease → ℕ → Type 0
FrontFull conns e ls k = (j : ℕ) (d : Lease) → j < k → IsFull conns e (get_or ls j d)

-- the machine's ranges with numbers below this one are full
abbrev pub AreFull : List Connection → RemoteEnd → ℕ → List Held → Type 0
AreFull conns e below held = Each (λ h. is_of e.machine h ≡ true → h.n < below → IsFull conns e (lease_of h)) held

-- the number below which the machine's ranges are known to be full; 0 for none
abbrev pub below_of : FullRanges → RemoteEnd → ℕ
below_of full e = unwrap_or (get same_end full.below e) 0

-- no number is above the top
abbrev pub IsTop : FullRanges → Type 0
IsTop full = (e : RemoteEnd) → below_of full e ≤ full.top

-- What is known to be full is.
pub record IsKnown (full : FullRanges) (conns : List Connection) (held : List Held) : Type 0 where
  pub top : IsTop full
  pub known : (e : RemoteEnd) → AreFull conns e (below_of full e) held

-- Where a connection's number changes, nothing is known any more.
pub record Renumbers (old new : FullRanges) (found : Option Connection) (n : ℕ) : Type 0 where
  pub top : IsTop new
  pub either : ((new ≡ old) × IfSome found (λ c. c.n ≡ n)) ⊎ ((e : RemoteEnd) → below_of new e ≡ 0)

-- it is known of an end that the leases before a place are full, or nothing more is
abbrev pub Keeps : FullRanges → FullRanges → RemoteEnd → List Lease → ℕ → RemoteEnd → Type 0
Keeps old new end ls k e =
    (below_of new e ≡ below_of old e)
    ⊎ ((same_end end e ≡ true) × ((0 < k) × ((d : Lease) → below_of new e ≤ (get_or ls (k - 1) d).n + 1)))
