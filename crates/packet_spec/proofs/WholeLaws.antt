-- A packet with the bytes past its total length, and without them.
use Rattle.std.proofs.Common.{◌≡◌, ℕ, ◌+◌, ◌-◌, ◌*◌, ◌%◌, ◌<◌, ◌≤◌, ◌==◌, Bool, nat_lt, if◌then◌else◌, List, length}
use Rattle.std.proofs.Common.{take, drop, get_or, Option, Some, None, Ok, refl, sym, ap, ◌∙◌, subst, arith}
use Rattle.std.proofs.lemmas.List.{take_all, take-take}
use Rattle.wire_core.specs.declared.flow.FlowKey.{FlowKey}
use Rattle.wire_core.specs.declared.flow.Proto.{Proto}
use Rattle.wire_core.specs.declared.flow.Proto.TheVariants.{Tcp, Udp}
use Rattle.wire_core.specs.Numbers.{AreBytes}
use Rattle.packet_spec.specs.Headers.{IsWhole, header_length, total_length, source_of, destination_of, payload_of}
use Rattle.packet_spec.specs.Headers.{whole, unless_fault}
use Rattle.packet_spec.specs.Segments.{source_port, destination_port, segment_bytes, is_syn, is_ack, is_rst}
use Rattle.packet_spec.specs.Packets.{packet_fault, read_packet, carried, segment_of, key_of, has_syn, has_ack, has_rst}
use Rattle.packet_spec.specs.Laws.{IsSound}
use Rattle.packet_spec.proofs.PacketLaws.{HasHeader, has_header, header_is_fine, whole_is_fine, length-whole}
use Rattle.packet_spec.proofs.PacketLaws.{byte_of_whole, word_of_whole, address_of_whole, payload_of_whole}
use Rattle.packet_spec.proofs.RightLaws.{bytes_take}
use Rattle.packet_spec.proofs.PlaceLaws.{same_flow}

-- what is whole has no bytes past its total length
pub whole_stays : (p : List ℕ) → IsWhole p → whole p ≡ p
unfolding whole
whole_stays p w = let t = w.total in take_all (total_length p) p (omega arith)

pub whole_bytes : (p : List ℕ) → AreBytes p → AreBytes (whole p)
unfolding whole
whole_bytes p bytes = bytes_take (total_length p) p bytes

pub whole_is_whole : (p : List ℕ) → AreBytes p → HasHeader p → IsWhole (whole p)
whole_is_whole p bytes h =
    let long = h.header in
    let within = h.within in
    let total = h.total in
    let byte = byte_of_whole p 0 (omega arith) in
    let word = word_of_whole p 2 (omega arith) in
    let len = length-whole p h in
    let header : header_length (whole p) ≡ header_length p = ap (λ (x : ℕ). 4 * (x % 16)) byte in
    let b2 = bytes 2 in
    let b3 = bytes 3 in
    record { header = omega arith; within = omega arith; total = omega arith; most = omega arith }

pub whole_is_sound : (p : List ℕ) → IsSound p → IsSound (whole p)
whole_is_sound p s = record { bytes = whole_bytes p s.bytes; fine = whole_is_fine p s.fine }

pub sound_is_whole : (p : List ℕ) → IsSound p → IsWhole (whole p)
sound_is_whole p s = whole_is_whole p s.bytes (has_header p (header_is_fine p s.fine))

-- it is read as it is
pub read_again : (p : List ℕ) → packet_fault p ≡ None → IsWhole p → read_packet p ≡ Ok p
unfolding read_packet
read_again p fine w = rw fine (ap (λ (q : List ℕ). Ok q) (whole_stays p w))

-- its parts
pub carried_of_whole : (p : List ℕ) → HasHeader p → carried (whole p) ≡ carried p
carried_of_whole p h =
    let long = h.header in
    let within = h.within in
    ap (λ (n : ℕ). if n == 6 then Tcp else Udp) (byte_of_whole p 9 (omega arith))

segment_of_whole : (p : List ℕ) → HasHeader p → segment_of (whole p) ≡ segment_of p
segment_of_whole p h =
    ap (λ (x : Proto). segment_bytes x (payload_of (whole p))) (carried_of_whole p h)
    ∙ ap (λ (x : List ℕ). segment_bytes (carried p) x) (payload_of_whole p h)

pub key_of_whole : (p : List ℕ) → HasHeader p → key_of (whole p) ≡ key_of p
unfolding key_of
key_of_whole p h =
    let long = h.header in
    let within = h.within in
    let segment = segment_of_whole p h in
    same_flow _ _ (address_of_whole p 12 (omega arith)) (address_of_whole p 16 (omega arith))
    (ap source_port segment) (ap destination_port segment) (carried_of_whole p h)

pub syn_of_whole : (p : List ℕ) → HasHeader p → has_syn (whole p) ≡ has_syn p
unfolding has_syn
syn_of_whole p h =
    ap (λ (x : Proto). is_syn x (segment_of (whole p))) (carried_of_whole p h)
    ∙ ap (λ (s : List ℕ). is_syn (carried p) s) (segment_of_whole p h)

pub ack_of_whole : (p : List ℕ) → HasHeader p → has_ack (whole p) ≡ has_ack p
unfolding has_ack
ack_of_whole p h =
    ap (λ (x : Proto). is_ack x (segment_of (whole p))) (carried_of_whole p h)
    ∙ ap (λ (s : List ℕ). is_ack (carried p) s) (segment_of_whole p h)

pub rst_of_whole : (p : List ℕ) → HasHeader p → has_rst (whole p) ≡ has_rst p
unfolding has_rst
rst_of_whole p h =
    ap (λ (x : Proto). is_rst x (segment_of (whole p))) (carried_of_whole p h)
    ∙ ap (λ (s : List ℕ). is_rst (carried p) s) (segment_of_whole p h)
