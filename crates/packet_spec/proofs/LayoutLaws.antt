-- The layout of a packet without fault lies within its bytes.
use Rattle.std.proofs.Common.{◌≡◌, ℕ, ◌+◌, ◌-◌, ◌<◌, ◌≤◌, List, length, take, drop, get_or, None, sym, ap, ◌∙◌, subst}
use Rattle.std.proofs.Common.{arith}
use Rattle.std.proofs.lemmas.List.{length-drop, length-take, drop-take}
use Rattle.std.specs.List.{slice_range}
use Rattle.wire_core.specs.declared.flow.Proto.{Proto}
use Rattle.wire_core.specs.declared.flow.Proto.TheVariants.{Tcp, Udp}
use Rattle.packet_spec.specs.declared.layout.Layout.{Layout}
use Rattle.packet_spec.specs.Headers.{header_length, total_length, source_of, destination_of, payload_of}
use Rattle.packet_spec.specs.Packets.{packet_fault, carried}
use Rattle.packet_spec.specs.Segments.{HasFields, least_length, segment_fault}
use Rattle.packet_spec.specs.Edits.{layout_of, segment_in, segment_end}
use Rattle.packet_spec.proofs.PacketLaws.{HasHeader, has_header, header_is_fine, segment_is_fine, has_fields}
use Rattle.packet_spec.proofs.PacketLaws.{udp_within, length-payload, payload_word}
use Rattle.packet_spec.specs.Layouts.{LiesWithin}

-- the bytes from the header to the total length are the payload
pub tcp_segment : (p : List ℕ) → HasHeader p → slice_range p (header_length p) (total_length p) ≡ payload_of p
tcp_segment p h =
    let within = h.within in
    let e : header_length p + (total_length p - header_length p) ≡ total_length p = omega arith in
    sym (drop-take (header_length p) (total_length p - header_length p) p)
    ∙ ap (λ (n : ℕ). drop (header_length p) (take n p)) e

-- the fields of a segment at the end of the header, by its protocol
pub fits_for : (proto : Proto) (p : List ℕ) → ((i : ℕ) → get_or p i 0 < 256) → HasHeader p
    → segment_fault proto (source_of p) (destination_of p) (payload_of p) ≡ None
    → LiesWithin (record { proto = proto; start = header_length p; end = segment_end proto p }) (length p)
fits_for Tcp p bytes h fine =
    let f = (has_fields Tcp (source_of p) (destination_of p) (payload_of p) fine).fields in
    let len = length-payload p h in
    let b2 = bytes 2 in
    let b3 = bytes 3 in
    record { header = h.header; fields = omega arith; within = h.total; short = omega arith }
fits_for Udp p bytes h fine =
    let f = udp_within (source_of p) (destination_of p) (payload_of p) fine in
    let g = (has_fields Udp (source_of p) (destination_of p) (payload_of p) fine).fields in
    let len = length-payload p h in
    let t = h.total in
    let w = h.within in
    let l0 = f.0 in
    let l1 = f.1 in
    let k : header_length p + 4 + 1 < total_length p = omega arith in
    let e = payload_word p 4 h k in
    let b4 = bytes (header_length p + 4) in
    let b5 = bytes (header_length p + 4 + 1) in
    record { header = h.header; fields = omega arith; within = omega arith; short = omega arith }

pub laid_out : (p : List ℕ) → ((i : ℕ) → get_or p i 0 < 256) → packet_fault p ≡ None
    → LiesWithin (layout_of p) (length p)
unfolding layout_of
laid_out p bytes fine = fits_for (carried p) p bytes (has_header p (header_is_fine p fine)) (segment_is_fine p fine)

-- a segment in a layout that lies within the bytes has as many
pub length-segment_in : (l : Layout) (p : List ℕ) → LiesWithin l (length p) → length (segment_in l p) ≡ l.end - l.start
length-segment_in l p h = let w = h.within in simp (length-take, length-drop) (omega arith)

pub fields_for : (proto : Proto) (p : List ℕ) → HasHeader p
    → segment_fault proto (source_of p) (destination_of p) (payload_of p) ≡ None
    → LiesWithin (record { proto = proto; start = header_length p; end = segment_end proto p }) (length p)
    → HasFields proto (segment_in (record { proto = proto; start = header_length p; end = segment_end proto p }) p)
fields_for Tcp p h fine within = subst (λ (s : List ℕ). HasFields Tcp s) (sym (tcp_segment p h))
    (has_fields Tcp (source_of p) (destination_of p) (payload_of p) fine)
fields_for Udp p h fine within =
    let len = length-segment_in (record { proto = Udp; start = header_length p; end = segment_end Udp p }) p within in
    let f = within.fields in
    record { fields = omega arith; options = omega arith }

pub laid_fields : (p : List ℕ) → ((i : ℕ) → get_or p i 0 < 256) → packet_fault p ≡ None
    → HasFields (layout_of p).proto (segment_in (layout_of p) p)
unfolding layout_of
laid_fields p bytes fine = fields_for (carried p) p (has_header p (header_is_fine p fine)) (segment_is_fine p fine)
    (laid_out p bytes fine)

-- the header's bytes are there, and those of a datagram's length
pub long_enough : (p : List ℕ) → packet_fault p ≡ None → 20 ≤ length p
long_enough p fine = let h = has_header p (header_is_fine p fine) in let a = h.header in let b = h.within in let c =
    h.total in omega arith

pub least_of : (proto : Proto) → 8 ≤ least_length proto
least_of Tcp = omega arith
least_of Udp = omega arith

pub udp_length_there : (p : List ℕ) → packet_fault p ≡ None → header_length p + 6 ≤ length p
udp_length_there p fine =
    let h = has_header p (header_is_fine p fine) in
    let f = (has_fields (carried p) (source_of p) (destination_of p) (payload_of p) (segment_is_fine p fine)).fields in
    let least = least_of (carried p) in
    let len = length-payload p h in
    let t = h.total in
    omega arith
