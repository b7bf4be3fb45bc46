-- Connections and inbound entries in the order in which they were opened, and their two keys.
use Rattle.std.specs.Prelude.{ℕ, ◌-◌, nat_le, Bool, not, List, map, filter, find, Option, if◌then◌else◌}
use Rattle.wire_core.specs.declared.address.Ip4.{Ip4}
use Rattle.wire_core.specs.declared.flow.FlowKey.{FlowKey}
use Rattle.wire_core.specs.declared.connection.Conn.{Conn}
use Rattle.wire_core.specs.Same.{same_key}
use Rattle.agent_spec.specs.declared.connection.Connection.{Connection}

-- the key of the machine's packets
unfoldable pub private_key : Connection → FlowKey
private_key c = record { src = c.machine; dst = c.remote; sport = c.sport; dport = c.rport; proto = c.proto }

-- the key of the packets that leave
unfoldable pub public_key : Connection → FlowKey
public_key c = record { src = c.vip; dst = c.remote; sport = c.port; dport = c.rport; proto = c.proto }

-- the connection as acts name it
abbrev pub conn_of : Connection → Conn
conn_of c = record {
  vip = c.vip;
  proto = c.proto;
  port = c.port;
  remote = c.remote;
  rport = c.rport;
  machine = c.machine;
  sport = c.sport;
}

-- its machine's packets have this key
abbrev pub has_private : FlowKey → Connection → Bool
has_private key c = same_key (private_key c) key

-- its packets leave with this key
abbrev pub has_public : FlowKey → Connection → Bool
has_public key c = same_key (public_key c) key

-- the connection of the machine's packets with this key
abbrev pub by_private : FlowKey → List Connection → Option Connection
by_private key cs = find (has_private key) cs

-- the connection of the packets that leave with this key
abbrev pub by_public : FlowKey → List Connection → Option Connection
by_public key cs = find (has_public key) cs

-- the most that are kept of each kind
abbrev pub most : ℕ
most = 65536

-- f, at the connection with the private key
abbrev pub at_private : FlowKey → (Connection → Connection) → Connection → Connection
at_private key f c = if has_private key c then f c else c

-- f, at this connection of a list
abbrev pub changed : Connection → (Connection → Connection) → List Connection → List Connection
changed c f cs = map (at_private (private_key c) f) cs

-- it was used now
abbrev pub at_time : ℕ → Connection → Connection
at_time now c = record c { last = now }

-- it has this peer and number
abbrev pub with_peer : Option Ip4 → ℕ → Connection → Connection
with_peer peer n c = record c { peer = peer; n = n }

-- idle for so long
abbrev pub is_idle : ℕ → ℕ → Connection → Bool
is_idle now idle c = nat_le idle (now - c.last)

-- without the connection that has the private key
abbrev pub closed : FlowKey → List Connection → List Connection
closed key cs = filter (λ c. not (has_private key c)) cs
