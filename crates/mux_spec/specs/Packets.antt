-- Packets from outside: to which machine each goes, wrapped.
use Rattle.std.specs.Prelude.{ℕ, ◌%◌, Bool, not, ◌&&◌, List, [], ◌∷◌, ◌++◌, length, slice_get, Option, Some, None}
use Rattle.std.specs.Prelude.{unwrap_or, Result, Ok, Err, if◌then◌else◌}
use Rattle.wire_core.specs.declared.address.Ip4.{Ip4}
use Rattle.wire_core.specs.declared.address.Socket.{Socket}
use Rattle.wire_core.specs.declared.cause.DropCause.{DropCause}
use Rattle.wire_core.specs.declared.cause.DropCause.TheVariants as drop
use Rattle.wire_core.specs.declared.flow.FlowKey.{FlowKey}
use Rattle.wire_core.specs.declared.flow.Proto.TheVariants.{Tcp}
use Rattle.wire_core.specs.declared.node.NodeId.TheVariants.{Mux as MuxNode}
use Rattle.wire_core.specs.declared.range.Range.{Range}
use Rattle.wire_core.specs.Flows.{hash}
use Rattle.wire_core.specs.Ranges.{is_leasable, range_of}
use Rattle.packet_spec.specs.declared.fault.PacketFault.{PacketFault}
use Rattle.packet_spec.specs.Packets.{read_packet, key_of, has_syn, has_ack}
use Rattle.ipip.specs.declared.wrapping.WrapFault.{WrapFault}
use Rattle.ipip.specs.Wrapping.{wrapped, wrap_fault}
use Rattle.control_msg.specs.declared.message.Message.TheVariants as message
use Rattle.vip_config.specs.declared.parts.ConfigParts.{ConfigParts}
use Rattle.vip_config.specs.declared.who.Who.{Who}
use Rattle.vip_config.specs.declared.who.Who.TheVariants as who
use Rattle.vip_config.specs.Leases.{lease_rules_of}
use Rattle.node_spec.specs.Sends.{Send, Carries, tell, to_agent}
use Rattle.node_spec.specs.Turns.{Turn, drop_turn, says}
use Rattle.packet_spec.specs.Causes.{packet_cause}
use Rattle.ipip.specs.Causes.{wrap_cause}
use Rattle.vip_config.specs.Serving.{agent_with, is_vip}
use Rattle.node_spec.specs.Fastpath.{has_fastpath, should_redirect}
use Rattle.mux_spec.specs.declared.verdict.RedirectAsk.{RedirectAsk}
use Rattle.mux_spec.specs.declared.verdict.Verdict.{Verdict}
use Rattle.mux_spec.specs.declared.verdict.Verdict.TheVariants.{Forward, Drop}
use Rattle.mux_spec.specs.Rows.{Rows, kept_at}
use Rattle.mux_spec.specs.Services.{chosen_for}
use Rattle.mux_spec.specs.Flows.{Flows, Noting, note}
use Rattle.mux_spec.specs.Mux.{Mux}

-- Where a packet goes, how it leaves, and whether its connection may do without a mux.
pub data Outcome : Type 0 where
  Sends : (machine : Ip4) → (bytes : List ℕ) → (ask : Option RedirectAsk) → Outcome
  Drops : (cause : DropCause) → Outcome

-- The flows after it, and what becomes of it: of what a mux keeps, a packet changes the flows alone.
abbrev pub Passing : Type 0
Passing = Flows × Outcome

-- the address of a socket
abbrev pub socket_ip : Option Socket → Ip4
socket_ip None = record { 0 = 0 }
socket_ip (Some s) = s.ip

-- the outer source of what a mux wraps
unfoldable pub own_address : ConfigParts → ℕ → Ip4
own_address c index = socket_ip (slice_get c.muxes index)

-- ---- to a leased range

-- it is sent on
abbrev pub wraps : Ip4 → Ip4 → List ℕ → Option RedirectAsk → Outcome
wraps own machine p ask = Sends machine (wrapped 1 own machine p) ask

-- it is sent on unless that is forbidden
abbrev pub wraps_unless : Ip4 → Ip4 → List ℕ → Option WrapFault → Outcome
wraps_unless own machine p (Some fault) = Drops (wrap_cause fault)
wraps_unless own machine p None = wraps own machine p None

-- by the machine of the row
abbrev pub to_row : Ip4 → List ℕ → Option Ip4 → Outcome
to_row own p None = Drops drop.NoLease
to_row own p (Some machine) = wraps_unless own machine p (wrap_fault 1 p)

-- a range that may be leased, or no endpoint at all
unfoldable pub to_range : ConfigParts → Ip4 → Rows → List ℕ → Range → Outcome
to_range c own rows p r =
    if is_leasable (lease_rules_of c) r then to_row own p (kept_at rows r).machine else Drops drop.NoEndpoint

-- ---- to an endpoint

-- it opens a connection
abbrev pub opens : List ℕ → Bool
opens p = has_syn p && not (has_ack p)

-- what is asked of the other mux
abbrev pub ask_of : FlowKey → Ip4 → RedirectAsk
ask_of k machine = record { src = k.src; sport = k.sport; dst = k.dst; dport = k.dport; machine = machine }

-- it is asked at the third packet
unfoldable pub ask_if : ConfigParts → FlowKey → Ip4 → ℕ → Option RedirectAsk
ask_if c k machine count =
    if has_fastpath && should_redirect k count (lease_rules_of c) then Some (ask_of k machine) else None

-- to the machine that is noted
abbrev pub after_note : ConfigParts → Ip4 → List ℕ → Noting → Passing
after_note c own p n = (n.0, wraps own n.1.machine p (ask_if c (key_of p) n.1.machine n.1.count))

-- the flow is noted once nothing forbids to send the packet on
abbrev pub noted_unless : ConfigParts → Ip4 → Flows → ℕ → List ℕ → Ip4 → Option WrapFault → Passing
noted_unless c own flows time p chosen (Some fault) = (flows, Drops (wrap_cause fault))
noted_unless c own flows time p chosen None = after_note c own p (note flows (key_of p) (opens p) chosen time)

-- a packet to an endpoint, of which this machine was chosen
unfoldable pub to_endpoint : ConfigParts → Ip4 → Flows → ℕ → List ℕ → Ip4 → Passing
to_endpoint c own flows time p chosen = noted_unless c own flows time p chosen (wrap_fault 1 p)

-- ---- the packet

-- to an endpoint, else to a range
abbrev pub to_end : ConfigParts → Ip4 → Rows → ℕ → Flows → List ℕ → Option Ip4 → Passing
to_end c own rows time flows p (Some chosen) = to_endpoint c own flows time p chosen
to_end c own rows time flows p None = (flows, to_range c own rows p (range_of (key_of p).dst (key_of p).dport))

-- a packet without fault
unfoldable pub sound : ConfigParts → Ip4 → Rows → ℕ → Flows → List ℕ → Passing
sound c own rows time flows p =
    if is_vip c.vips (key_of p).dst
    then to_end c own rows time flows p (chosen_for c (key_of p))
    else (flows, Drops drop.NotVip)

-- the packet's faults
abbrev pub read_as : ConfigParts → Ip4 → Rows → ℕ → Flows → Result (List ℕ) PacketFault → Passing
read_as c own rows time flows (Err fault) = (flows, Drops (packet_cause fault))
read_as c own rows time flows (Ok p) = sound c own rows time flows p

-- by its sender
abbrev pub from_who : ConfigParts → Ip4 → Rows → ℕ → Flows → List ℕ → Who → Passing
from_who c own rows time flows bytes (who.Replica i) = (flows, Drops drop.WrongRole)
from_who c own rows time flows bytes (who.Mux i) = (flows, Drops drop.WrongRole)
from_who c own rows time flows bytes (who.Agent i) = (flows, Drops drop.WrongRole)
from_who c own rows time flows bytes (who.Machine a) = (flows, Drops drop.NotMine)
from_who c own rows time flows bytes who.Outside = read_as c own rows time flows (read_packet bytes)

-- A packet of this sender.
unfoldable pub passing : ConfigParts → Mux → Who → List ℕ → Passing
passing c m sender bytes = from_who c (own_address c m.index) m.rows m.time m.flows bytes sender

-- ---- as a turn

-- the mux that has the flow's hash
abbrev pub asked_mux : ConfigParts → RedirectAsk → ℕ
asked_mux c a =
    hash (record { src = a.src; dst = a.dst; sport = a.sport; dport = a.dport; proto = Tcp }) % length c.muxes

-- the question to the other mux
abbrev pub asks : ConfigParts → Option RedirectAsk → List Send
asks c None = []
asks c (Some a) =
    tell (MuxNode (asked_mux c a)) (message.RedirectAsk a.src a.sport a.dst a.dport a.machine) ∷ []

-- what becomes of a packet, as a turn
abbrev pub turn_of : ConfigParts → Mux → Outcome → Turn Mux
turn_of c m (Sends machine bytes ask) = says m (to_agent (agent_with c machine) (Carries bytes) ++ asks c ask)
turn_of c m (Drops cause) = drop_turn m cause

-- with the flows after it
abbrev pub passed : ConfigParts → Mux → Passing → Turn Mux
passed c m x = turn_of c (record m { flows = x.0 }) x.1

-- To the machine's agent, and perhaps a RedirectAsk to the mux with the flow's hash.
unfoldable pub on_packet : ConfigParts → Mux → Who → List ℕ → Turn Mux
on_packet c m sender bytes = passed c m (passing c m sender bytes)

-- ---- as `Mux::packet` answers it

-- each machine that is named has its agent
unfoldable pub agent_number : ConfigParts → Ip4 → ℕ
agent_number c machine = unwrap_or (agent_with c machine) 0

-- the answer
abbrev pub verdict_of : ConfigParts → Outcome → Verdict
verdict_of c (Sends machine bytes ask) = Forward (agent_number c machine) ask
verdict_of c (Drops cause) = Drop cause

-- what stands in the buffer: what was wrapped, or what stood there
abbrev pub left_in : List ℕ → Outcome → List ℕ
left_in old (Sends machine bytes ask) = bytes
left_in old (Drops cause) = old
