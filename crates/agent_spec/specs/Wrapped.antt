-- Wrapped packets from muxes and agents: they are restored, and handed to a machine.
use Rattle.std.specs.Prelude.{ℕ, Bool, false, not, ◌&&◌, nat_le, List, [], ◌∷◌, ◌++◌, length, slice_get}
use Rattle.std.specs.Prelude.{Option, Some, None, is_some, Result, Ok, Err, if◌then◌else◌}
use Rattle.std.specs.List.{list_any}
use Rattle.wire_core.specs.declared.address.Ip4.{Ip4}
use Rattle.wire_core.specs.declared.address.Socket.{Socket}
use Rattle.wire_core.specs.declared.flow.FlowKey.{FlowKey}
use Rattle.wire_core.specs.declared.cause.DropCause.TheVariants as drop
use Rattle.wire_core.specs.Flows.{reverse}
use Rattle.packet_spec.specs.declared.fault.PacketFault.{PacketFault}
use Rattle.packet_spec.specs.Packets.{read_packet, key_of, has_syn, has_ack, has_rst}
use Rattle.ipip.specs.declared.unwrapping.UnwrapFault.{UnwrapFault}
use Rattle.ipip.specs.Wrapping.{Unwrapped, unwrapped}
use Rattle.config_text.specs.declared.agents.AgentConf.{AgentConf}
use Rattle.config_text.specs.declared.vips.Member.{Member}
use Rattle.vip_config.specs.declared.parts.ConfigParts.{ConfigParts}
use Rattle.vip_config.specs.declared.who.Who.{Who}
use Rattle.vip_config.specs.declared.who.Who.TheVariants as who
use Rattle.packet_spec.specs.Causes.{packet_cause}
use Rattle.ipip.specs.Causes.{unwrap_cause}
use Rattle.wire_core.specs.Same.{same_ip}
use Rattle.vip_config.specs.Serving.{member_at}
use Rattle.node_spec.specs.Datagrams.{is_mux}
use Rattle.node_spec.specs.Fastpath.{has_fastpath}
use Rattle.node_spec.specs.Turns.{Turn, drop_turn, also, lifted}
use Rattle.agent_spec.specs.declared.connection.Connection.{Connection}
use Rattle.agent_spec.specs.Connections.{private_key, public_key, by_private, by_public, changed, closed, most}
use Rattle.agent_spec.specs.Agent.{Agent, Traffic, with_traffic, is_own}
use Rattle.agent_spec.specs.Traffic.{touched, closes, hand}

-- ---- who wrapped it

-- the socket has this address
abbrev pub is_at : Ip4 → Option Socket → Bool
is_at a None = false
is_at a (Some s) = same_ip s.ip a

-- the agent has this machine
abbrev pub has_machine : Ip4 → Option AgentConf → Bool
has_machine a None = false
has_machine a (Some conf) = list_any (λ m. same_ip m.address a) conf.machines

-- a mux's outer source is its address, an agent's one of its machines
abbrev pub may_wrap : ConfigParts → Who → Ip4 → Bool
may_wrap c (who.Mux i) src = is_at src (slice_get c.muxes i)
may_wrap c (who.Agent i) src = has_fastpath && has_machine src (slice_get c.agents i)
may_wrap c (who.Replica i) src = false
may_wrap c (who.Machine a) src = false
may_wrap c who.Outside src = false

-- ---- to a connection

-- The reply to an own connection: restored and handed; a TCP RST closes it.
unfoldable pub reply : Traffic → Ip4 → List ℕ → Connection → Turn Traffic
reply t machine p x =
    if same_ip x.machine machine then also (hand (touched t x) x p) (closes (has_rst p) x)
    else drop_turn t drop.WrongMachine

-- ---- to an endpoint

-- the inbound entry of a packet with this key
abbrev pub new_entry : ℕ → FlowKey → Ip4 → ℕ → Connection
new_entry now k machine port =
    record {
      vip = k.dst;
      proto = k.proto;
      port = k.dport;
      remote = k.src;
      rport = k.sport;
      machine = machine;
      sport = port;
      n = 0;
      last = now;
      peer = None;
    }

-- a SYN through a mux clears the peer
abbrev pub clears_peer : Who → List ℕ → Bool
clears_peer sender p = is_mux sender && (has_syn p && not (has_ack p))

-- an entry that is used now
abbrev pub met_again : ℕ → Bool → Connection → Connection
met_again now clear x = record x { last = now; peer = if clear then None else x.peer }

-- An entry is made where there is room, and the packet is handed.
unfoldable pub enters : Traffic → List ℕ → Connection → Turn Traffic
enters t p x =
    if nat_le most (length t.inbound) then drop_turn t drop.TableFull
    else hand (record t { inbound = t.inbound ++ x ∷ [] }) x p

-- the entry that is there is used; another machine's with the same public key leaves
abbrev pub enters_or_meets : Traffic → Who → List ℕ → Connection → Option Connection → Turn Traffic
enters_or_meets t sender p made None = enters t p made
enters_or_meets t sender p made (Some x) =
    if same_ip x.machine made.machine
    then hand (record t { inbound = changed x (met_again t.time (clears_peer sender p)) t.inbound }) x p
    else enters (record t { inbound = closed (private_key x) t.inbound }) p made

-- A packet to an endpoint's machine: none of its connections may have the entry's packets.
unfoldable pub to_server : Traffic → Who → List ℕ → Connection → Turn Traffic
to_server t sender p made =
    if is_some (by_private (private_key made) t.conns) then drop_turn t drop.KeyInUse
    else enters_or_meets t sender p made (by_public (public_key made) t.inbound)

-- the machine serves this endpoint, or doesn't
abbrev pub to_member : Traffic → Who → Ip4 → List ℕ → Option Member → Turn Traffic
to_member t sender machine p None = drop_turn t drop.NoConnection
to_member t sender machine p (Some m) = to_server t sender p (new_entry t.time (key_of p) machine m.port)

-- ---- the packet

-- a reply, or a packet to an endpoint
abbrev pub by_reply : ConfigParts → Traffic → Who → Ip4 → List ℕ → Option Connection → Turn Traffic
by_reply c t sender machine p (Some x) = reply t machine p x
by_reply c t sender machine p None = to_member t sender machine p (member_at c.vips (key_of p) machine)

-- Fifth to seventh: a connection's reply, an endpoint's packet, or neither.
unfoldable pub delivered : ConfigParts → Traffic → Who → Ip4 → List ℕ → Turn Traffic
delivered c t sender machine p = by_reply c t sender machine p (by_public (reverse (key_of p)) t.conns)

-- fourth: the inner packet's faults
abbrev pub inner_as : ConfigParts → Traffic → Who → Ip4 → Result (List ℕ) PacketFault → Turn Traffic
inner_as c t sender machine (Err fault) = drop_turn t (packet_cause fault)
inner_as c t sender machine (Ok p) = delivered c t sender machine p

-- second and third: the machine is its own, and the sender may say so
abbrev pub outer_as : ConfigParts → Agent → Who → Unwrapped → Turn Agent
outer_as c a sender u =
    if not (is_own a.hosts u.outer_dst) then drop_turn a drop.NotMine
    else if not (may_wrap c sender u.outer_src) then drop_turn a drop.BadSender
    else lifted (with_traffic a) (inner_as c a.traffic sender u.outer_dst (read_packet u.bytes))

-- first: the outer header's faults
abbrev pub unwrapped_as : ConfigParts → Agent → Who → Result Unwrapped UnwrapFault → Turn Agent
unwrapped_as c a sender (Err fault) = drop_turn a (unwrap_cause fault)
unwrapped_as c a sender (Ok u) = outer_as c a sender u

-- A wrapped packet: the first test that applies.
unfoldable pub on_wrapped : ConfigParts → Agent → Who → List ℕ → Turn Agent
on_wrapped c a sender bytes = unwrapped_as c a sender (unwrapped bytes)
