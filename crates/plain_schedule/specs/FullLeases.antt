-- Leases that are full for a remote end, so that the look for a free port passes them.
use Rattle.std.specs.Prelude.{ℕ, ◌≡◌, ◌+◌, ◌*◌, ◌<◌, ◌≤◌, min, Bool, ◌&&◌, ◌==◌, List, Option, Some, None, unwrap_or}
use Rattle.indexmap.specs.IndexMap.{get}
use Rattle.wire_core.specs.declared.flow.FlowKey.{FlowKey}
use Rattle.wire_core.specs.Members.{In, Each}
use Rattle.wire_core.specs.Same.{same_ip, same_proto}
use Rattle.lease_spec.specs.declared.row.Row.{Row}
use Rattle.port_leases.specs.TableState.{TableState}
use Rattle.plain_schedule.specs.declared.connections.Connection.{Connection}
use Rattle.plain_schedule.specs.declared.full_leases.RemoteEnd.{RemoteEnd}
use Rattle.plain_schedule.specs.declared.full_leases.FullLeases.{FullLeases}
use Rattle.plain_schedule.specs.Connections.{has_public, newest}
use Rattle.plain_schedule.specs.Packets.{places}
use Rattle.plain_schedule.specs.Schedule.{Plain}

abbrev pub same_end : RemoteEnd → RemoteEnd → Bool
same_end a b =
    same_ip a.machine b.machine
    && (same_ip a.address b.address && ((a.port == b.port) && same_proto a.proto b.proto))

-- where the packets with this key go
abbrev pub end_of : FlowKey → RemoteEnd
end_of key = record { machine = key.src; address = key.dst; port = key.dport; proto = key.proto }

-- the public key through the i-th port of a lease
abbrev pub public_at : RemoteEnd → Row → ℕ → FlowKey
public_at e row i = record {
  src = row.range.vip;
  dst = e.address;
  sport = min (row.range.start + i) 65535;
  dport = e.port;
  proto = e.proto;
}

abbrev pub lease_of : Option Connection → Option ℕ
lease_of None = None
lease_of (Some c) = Some c.n

-- each port of the lease carries a connection of that lease to the remote end
abbrev pub IsFull : List Connection → RemoteEnd → Row → Type 0
IsFull opened e row = Each (λ i. lease_of (newest (has_public (public_at e row i)) opened) ≡ Some row.n) places

-- numbers of leases are below this
abbrev pub bound : TableState → ℕ
bound t = 16 * t.slots + 1

-- the machine's leases up to this number are full for the remote end, and later leases have higher numbers
pub record AreFull (s : Plain) (e : RemoteEnd) (n : ℕ) : Type 0 where
  pub full : (row : Row) → In row s.table.leases.rows → row.machine ≡ e.machine → row.n ≤ n → IsFull s.opened e row
  pub old : n < bound s.table

-- the number up to which the machine's leases are known to be full
abbrev pub up_to : FullLeases → RemoteEnd → ℕ
up_to full e = unwrap_or (get same_end full.up_to e) 0

abbrev pub plain : TableState → List Connection → Plain
plain table opened = record { table = table; opened = opened }
