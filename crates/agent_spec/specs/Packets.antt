-- Packets of the own machines: those that leave, and those that are held until a range is granted.
use Rattle.std.specs.Prelude.{ℕ, ◌+◌, ◌-◌, ◌^◌, ◌==◌, nat_le, Bool, ◌||◌, List, [], ◌∷◌, ◌++◌, length, Option, Some}
use Rattle.std.specs.Prelude.{None, is_some, Result, Ok, Err, if◌then◌else◌}
use Rattle.wire_core.specs.declared.address.Ip4.{Ip4}
use Rattle.wire_core.specs.declared.flow.FlowKey.{FlowKey}
use Rattle.wire_core.specs.declared.cause.DropCause.TheVariants.{NoSnat, TableFull, QueueFull, BadSource, NotMine}
use Rattle.wire_core.specs.declared.node.NodeId.TheVariants.{Replica}
use Rattle.control_msg.specs.declared.message.Message.TheVariants.{Ask}
use Rattle.packet_spec.specs.declared.fault.PacketFault.{PacketFault}
use Rattle.packet_spec.specs.Packets.{key_of, read_packet}
use Rattle.vip_config.specs.declared.parts.ConfigParts.{ConfigParts}
use Rattle.wire_core.specs.declared.note.Note.TheVariants.{Queued}
use Rattle.packet_spec.specs.Causes.{packet_cause}
use Rattle.wire_core.specs.Same.{same_ip}
use Rattle.vip_config.specs.Serving.{snat_vip}
use Rattle.node_spec.specs.Sends.{tell}
use Rattle.node_spec.specs.Turns.{Turn, quiet, drop_turn, note_turn, says, also}
use Rattle.agent_spec.specs.declared.connection.Connection.{Connection}
use Rattle.agent_spec.specs.Connections.{by_private, by_public, most}
use Rattle.agent_spec.specs.Ranges.{ports_of, first_unused}
use Rattle.agent_spec.specs.Agent.{Agent, Host, Site, Traffic, host_of, site_at, of_traffic, of_host, of_site}
use Rattle.agent_spec.specs.Traffic.{open_conn, use_conn, use_inbound}

-- ---- a packet that leaves, or finds no port

-- some connection leaves from the port to the same remote end
abbrev pub is_used : List Connection → FlowKey → Ip4 → ℕ → Bool
is_used conns key vip port = is_some (by_public (record key { src = vip; sport = port }) conns)

-- a connection through this range and port
abbrev pub new_connection : ℕ → FlowKey → Ip4 → ℕ × ℕ → Connection
new_connection now key vip chosen =
    record {
      vip = vip;
      proto = key.proto;
      port = chosen.1;
      remote = key.dst;
      rport = key.dport;
      machine = key.src;
      sport = key.sport;
      n = chosen.0;
      last = now;
      peer = None;
    }

-- What may become of a machine's packet: it left or was dropped, or there is no port for it.
abbrev pub with_port : ConfigParts → Traffic → Ip4 → List ℕ → Option (ℕ × ℕ) → Option (Turn Traffic)
with_port c t vip p None = None
with_port c t vip p (Some chosen) =
    Some (also
    (open_conn t (new_connection t.time (key_of p) vip chosen))
    (λ u. use_conn c u (new_connection t.time (key_of p) vip chosen) p))

-- A new connection: through the first port of the machine's ranges, by n, that isn't used to the same remote end.
unfoldable pub new_conn : ConfigParts → Traffic → List ℕ → Option Ip4 → Option (Turn Traffic)
new_conn c t p None = Some (drop_turn t NoSnat)
new_conn c t p (Some vip) =
    if nat_le most (length t.conns) then Some (drop_turn t TableFull)
    else with_port c t vip p (first_unused (is_used t.conns (key_of p) vip) (ports_of t.ranges.held (key_of p).src))

-- by the machine's inbound entry
abbrev pub by_inbound : ConfigParts → Traffic → List ℕ → Option Connection → Option (Turn Traffic)
by_inbound c t p (Some x) = Some (use_inbound c t x p)
by_inbound c t p None = new_conn c t p (snat_vip c.vips (key_of p).src)

-- by the machine's connection
abbrev pub by_conn : ConfigParts → Traffic → List ℕ → Option Connection → Option (Turn Traffic)
by_conn c t p (Some x) = Some (use_conn c t x p)
by_conn c t p None = by_inbound c t p (by_private (key_of p) t.inbound)

-- A machine's packet without fault: its connection, an inbound entry, or a new connection through the machine's VIP.
unfoldable pub try_packet : ConfigParts → Traffic → List ℕ → Option (Turn Traffic)
try_packet c t p = by_conn c t p (by_private (key_of p) t.conns)

-- ---- a packet that is held

-- the machine with one more ask, which is out
abbrev pub asking : Host → ℕ → Host
asking h now = record h { seq = h.seq + 1; ask = Some (record { seq = h.seq + 1; at = now }) }

-- An Ask to a replica, where none is out and seq isn't the greatest number.
unfoldable pub ask_for : ℕ → ℕ → ℕ → Host → Turn Host
ask_for boot hint now h =
    if is_some h.ask || (h.seq == 2 ^ 64 - 1) then quiet h
    else says (asking h now) (tell (Replica hint) (Ask boot h.machine (h.seq + 1)) ∷ [])

-- the machine with one more held packet
abbrev pub with_packet : Host → List ℕ → Host
with_packet h p = record h { queue = h.queue ++ p ∷ [] }

-- the queue with one packet more, and their count; None where 64 are held
abbrev pub enqueued : List (List ℕ) → List ℕ → List (List ℕ) × Option ℕ
enqueued queue p = if nat_le 64 (length queue) then (queue, None) else (queue ++ p ∷ [], Some (length queue + 1))

-- held, with its note and an Ask, or dropped
abbrev pub held_by : ℕ → ℕ → ℕ → Host → List (List ℕ) × Option ℕ → Turn Host
held_by boot hint now h (queue, None) = drop_turn h QueueFull
held_by boot hint now h (queue, Some count) =
    also (note_turn (record h { queue = queue }) (Queued h.machine count)) (ask_for boot hint now)

-- A packet without a port is held; at 64 it is dropped.
unfoldable pub stays : ℕ → ℕ → ℕ → Host → List ℕ → Turn Host
stays boot hint now h p = held_by boot hint now h (enqueued h.queue p)

-- ---- a machine's packet

-- it left, or it is held
abbrev pub or_stays : ℕ → ℕ → Site → List ℕ → Option (Turn Traffic) → Turn Site
or_stays boot hint s p (Some t) = of_traffic s t
or_stays boot hint s p None = of_host s (stays boot hint s.traffic.time s.host p)

-- A packet without fault from the machine's socket is the machine's own.
unfoldable pub machine_packet : ConfigParts → ℕ → ℕ → Site → List ℕ → Turn Site
machine_packet c boot hint s p =
    if same_ip (key_of p).src s.host.machine then or_stays boot hint s p (try_packet c s.traffic p)
    else drop_turn s BadSource

-- the packet's faults
abbrev pub read_as : ConfigParts → ℕ → ℕ → Site → Result (List ℕ) PacketFault → Turn Site
read_as c boot hint s (Err fault) = drop_turn s (packet_cause fault)
read_as c boot hint s (Ok p) = machine_packet c boot hint s p

-- a packet of an own machine, or of another
abbrev pub of_machine : ConfigParts → Agent → List ℕ → Option Host → Turn Agent
of_machine c a bytes None = drop_turn a NotMine
of_machine c a bytes (Some h) = of_site a (read_as c a.boot a.hint (site_at a h) (read_packet bytes))

-- A packet from a machine's socket.
unfoldable pub from_machine : ConfigParts → Agent → Ip4 → List ℕ → Turn Agent
from_machine c a machine bytes = of_machine c a bytes (host_of a.hosts machine)
