-- A whole packet, in the few words by which the layers above read it.
use Rattle.std.specs.Prelude.{ℕ, Bool, ◌==◌, List, Option, Some, None, Result, if◌then◌else◌}
use Rattle.wire_core.specs.declared.flow.FlowKey.{FlowKey}
use Rattle.wire_core.specs.declared.flow.Proto.{Proto}
use Rattle.wire_core.specs.declared.flow.Proto.TheVariants.{Tcp, Udp}
use Rattle.packet_spec.specs.declared.fault.IpFault.{IpFault}
use Rattle.packet_spec.specs.declared.fault.PacketFault.{PacketFault}
use Rattle.packet_spec.specs.declared.fault.PacketFault.TheVariants.{Ip, NotTransport, Segment}
use Rattle.packet_spec.specs.declared.fault.SegmentFault.{SegmentFault}
use Rattle.packet_spec.specs.Headers.{ip_fault, protocol_of, source_of, destination_of, payload_of, whole, unless_fault}
use Rattle.packet_spec.specs.Segments.{segment_fault, segment_bytes, source_port, destination_port, is_syn, is_rst}
use Rattle.packet_spec.specs.Segments.{is_ack}

-- the transport of a protocol number
abbrev pub proto_of : ℕ → Option Proto
proto_of number = if number == 6 then Some Tcp else if number == 17 then Some Udp else None

-- the transport of a packet that has one
abbrev pub carried : List ℕ → Proto
carried p = if protocol_of p == 6 then Tcp else Udp

-- a segment's fault as a packet's
abbrev pub in_segment : Option SegmentFault → Option PacketFault
in_segment None = None
in_segment (Some fault) = Some (Segment fault)

-- the first fault of what a header without fault carries
abbrev pub transport_fault : Option Proto → List ℕ → Option PacketFault
transport_fault None p = Some NotTransport
transport_fault (Some proto) p = in_segment (segment_fault proto (source_of p) (destination_of p) (payload_of p))

-- a header's fault comes before all others
abbrev pub header_first : Option IpFault → Option PacketFault → Option PacketFault
header_first None other = other
header_first (Some fault) other = Some (Ip fault)

-- the first fault of a packet
unfoldable pub packet_fault : List ℕ → Option PacketFault
packet_fault p = header_first (ip_fault p) (transport_fault (proto_of (protocol_of p)) p)

-- reading a packet: the packet up to its total length, or the first fault
unfoldable pub read_packet : List ℕ → Result (List ℕ) PacketFault
read_packet p = unless_fault (packet_fault p) (whole p)

-- the segment of a packet without fault
abbrev pub segment_of : List ℕ → List ℕ
segment_of p = segment_bytes (carried p) (payload_of p)

-- its five numbers
unfoldable pub key_of : List ℕ → FlowKey
key_of p = record {
  src = source_of p;
  dst = destination_of p;
  sport = source_port (segment_of p);
  dport = destination_port (segment_of p);
  proto = carried p;
}

-- its control bits
unfoldable pub has_syn : List ℕ → Bool
has_syn p = is_syn (carried p) (segment_of p)

unfoldable pub has_ack : List ℕ → Bool
has_ack p = is_ack (carried p) (segment_of p)

unfoldable pub has_rst : List ℕ → Bool
has_rst p = is_rst (carried p) (segment_of p)
