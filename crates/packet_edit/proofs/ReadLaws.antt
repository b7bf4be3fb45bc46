-- What reading a packet answers, by what reading its parts answered.
use Rattle.std.proofs.Common.{◌≡◌, ℕ, List, length, take, Option, Some, None, Result, Ok, Err, IfOk, OnOk, refl, sym}
use Rattle.std.proofs.Common.{ap, ◌∙◌, ◌==◌, if◌then◌else◌, arith}
use Rattle.wire_core.specs.declared.flow.Proto.{Proto}
use Rattle.wire_core.specs.declared.flow.Proto.TheVariants.{Tcp, Udp}
use Rattle.packet_spec.specs.declared.fault.IpFault.{IpFault}
use Rattle.packet_spec.specs.declared.fault.SegmentFault.{SegmentFault}
use Rattle.packet_spec.specs.declared.fault.PacketFault.{PacketFault}
use Rattle.packet_spec.specs.declared.fault.PacketFault.TheVariants.{Ip, NotTransport, Segment}
use Rattle.packet_spec.specs.Headers.{read_ip, whole, protocol_of, source_of, destination_of, payload_of}
use Rattle.packet_spec.specs.Segments as segments
use Rattle.packet_spec.specs.Segments.{segment_fault, read_segment, segment_bytes}
use Rattle.packet_spec.specs.Packets.{packet_fault, read_packet, proto_of, transport_fault, in_segment, carried}
use Rattle.packet_spec.proofs.PacketLaws.{has_header, unless_ok, unless_err, read_ip_ok, read_ip_err, fault_behind}
use Rattle.packet_spec.proofs.PacketLaws.{transport_of_whole, whole_is_fine, length-whole, header_is_fine}
use Rattle.packet_edit.specs.Parts.{HasParts}

-- a fault of the header is the packet's
pub header_fault : (p : List ℕ) (f : IpFault) → Err f ≡ read_ip p → Err (Ip f) ≡ read_packet p
unfolding read_packet packet_fault
header_fault p f e = let is = read_ip_err p f e in rw is refl

-- behind a header without fault the packet's fault is its segment's, as it is read from the packet that was lent
pub fault_of_lent : (p q : List ℕ) → Ok q ≡ read_ip p → packet_fault p ≡ transport_fault (proto_of (protocol_of q)) q
fault_of_lent p q e =
    let r = read_ip_ok p q e in
    fault_behind p r.0 ∙ sym (transport_of_whole p (has_header p r.0))
    ∙ ap (λ (x : List ℕ). transport_fault (proto_of (protocol_of x)) x) (sym r.1)

pub not_transport : (p q : List ℕ) → Ok q ≡ read_ip p → None ≡ proto_of (protocol_of q)
    → Err NotTransport ≡ read_packet p
unfolding read_packet
not_transport p q e none =
    let f = fault_of_lent p q e in
    let g : packet_fault p ≡ Some NotTransport = f ∙ ap (λ (o : Option Proto). transport_fault o q) (sym none) in
    rw g refl

pub segment_read_fault : (p q : List ℕ) (proto : Proto) (f : SegmentFault) → Ok q ≡ read_ip p
    → Some proto ≡ proto_of (protocol_of q)
    → Err f ≡ read_segment proto (source_of q) (destination_of q) (payload_of q) → Err (Segment f) ≡ read_packet p
unfolding read_packet read_segment
segment_read_fault p q proto f e some read =
    let h = unless_err (segment_fault proto (source_of q) (destination_of q) (payload_of q)) _ f read in
    let g : packet_fault p ≡ Some (Segment f) = fault_of_lent p q e
    ∙ ap (λ (o : Option Proto). transport_fault o q) (sym some) ∙ ap in_segment h in
    rw g refl

pub packet_read : (p q : List ℕ) (proto : Proto) (s : segments.Segment) → Ok q ≡ read_ip p
    → Some proto ≡ proto_of (protocol_of q)
    → Ok s ≡ read_segment proto (source_of q) (destination_of q) (payload_of q) → Ok q ≡ read_packet p
unfolding read_packet read_segment
packet_read p q proto s e some read =
    let h = (unless_ok (segment_fault proto (source_of q) (destination_of q) (payload_of q)) _ s read).0 in
    let g : packet_fault p ≡ None = fault_of_lent p q e ∙ ap (λ (o : Option Proto). transport_fault o q) (sym some)
    ∙ ap in_segment h in
    let is = (read_ip_ok p q e).1 in
    rw (g, is) refl

-- the transport of a number that has one
pub transport_is : (n : ℕ) (proto : Proto) → Some proto ≡ proto_of n → proto ≡ (if n == 6 then Tcp else Udp)
transport_is n proto e = grind arith

pub carried_is : (p : List ℕ) (proto : Proto) → Some proto ≡ proto_of (protocol_of p) → proto ≡ carried p
carried_is p proto e = transport_is (protocol_of p) proto e

pub parts_read : (q : List ℕ) (proto : Proto) (s : segments.Segment) → Some proto ≡ proto_of (protocol_of q)
    → Ok s ≡ read_segment proto (source_of q) (destination_of q) (payload_of q) → HasParts q proto s
unfolding read_segment
parts_read q proto s some read =
    let is = (unless_ok (segment_fault proto (source_of q) (destination_of q) (payload_of q)) _ s read).1 in
    let c = carried_is q proto some in
    record {
      transport = c;
      segment_transport = ap (λ (x : segments.Segment). x.proto) is ∙ c;
      segment_is = ap (λ (x : segments.Segment). x.bytes) is ∙ ap (λ (x : Proto). segment_bytes x (payload_of q)) c;
    }

-- what is read has no fault, with or without the bytes past its total length
pub read_is_fine : (p q : List ℕ) → Ok q ≡ read_packet p → packet_fault p ≡ None
unfolding read_packet
read_is_fine p q e = (unless_ok (packet_fault p) (whole p) q e).0

pub lent_is_fine : (p q : List ℕ) → Ok q ≡ read_packet p → packet_fault q ≡ None
unfolding read_packet
lent_is_fine p q e =
    let r = unless_ok (packet_fault p) (whole p) q e in
    ap packet_fault r.1 ∙ whole_is_fine p r.0

-- what is lent is the front of the bytes
pub lent_is_front : (p q : List ℕ) → Ok q ≡ read_packet p → take (length q) p ≡ q
unfolding read_packet whole
lent_is_front p q e =
    let r = unless_ok (packet_fault p) (whole p) q e in
    let h = has_header p (header_is_fine p r.0) in
    ap (λ (x : List ℕ). take (length x) p) r.1 ∙ ap (λ (n : ℕ). take n p) (length-whole p h) ∙ sym r.1

-- the same of what reading answers
pub if_lent_front : (p : List ℕ) (r : Result (List ℕ) PacketFault) → r ≡ read_packet p
    → IfOk r (λ q. take (length q) p ≡ q)
if_lent_front p (Ok q) e = lent_is_front p q e
if_lent_front p (Err f) e = tt

pub if_lent_fine : (p : List ℕ) (r : Result (List ℕ) PacketFault) → r ≡ read_packet p
    → IfOk r (λ q. packet_fault q ≡ None)
if_lent_fine p (Ok q) e = lent_is_fine p q e
if_lent_fine p (Err f) e = tt

pub if_lent_buffer : (p : List ℕ) (r : Result (List ℕ) PacketFault) → r ≡ read_packet p → OnOk r (packet_fault p ≡ None)
if_lent_buffer p (Ok q) e = read_is_fine p q e
if_lent_buffer p (Err f) e = tt
