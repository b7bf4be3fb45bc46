-- What each edit makes of a packet without fault.
use Rattle.std.proofs.Common.{◌≡◌, ◌≢◌, ℕ, ◌+◌, ◌-◌, ◌<◌, ◌≤◌, ◌==◌, if◌then◌else◌, List, length, take, drop, get_or}
use Rattle.std.proofs.Common.{None, Ok, refl, sym, ap, ◌∙◌, arith}
use Rattle.std.specs.List.{slice_range}
use Rattle.std.proofs.lemmas.List.{get_or-set_other, take_all}
use Rattle.wire_core.specs.declared.address.Ip4.{Ip4}
use Rattle.wire_core.specs.declared.flow.FlowKey.{FlowKey}
use Rattle.wire_core.specs.declared.flow.Proto.TheVariants.{Tcp, Udp}
use Rattle.packet_spec.specs.declared.layout.Layout.{Layout}
use Rattle.packet_spec.specs.Words.{put_word}
use Rattle.packet_spec.specs.Sums.{ones_sum, checksum}
use Rattle.packet_spec.specs.Headers.{IsWhole, header_length, total_length, header_of, ttl_of, protocol_of, source_of}
use Rattle.packet_spec.specs.Headers.{destination_of, payload_of, whole}
use Rattle.packet_spec.specs.Packets.{packet_fault, read_packet, proto_of, transport_fault, carried, key_of}
use Rattle.packet_spec.specs.Edits.{layout_of, put_source, put_destination, put_ttl, clamp, put_header_sum}
use Rattle.packet_spec.specs.Edits.{put_segment_sum, put_sums, set_source, set_destination, clamp_mss}
use Rattle.packet_spec.specs.Edits.{translate_source, translate_destination}
use Rattle.packet_spec.specs.Laws.{IsSound, IsEnd, from_end, to_end, Becomes}
use Rattle.packet_spec.proofs.PacketLaws.{has_header, is_fine, fine_is, header_is_fine, fault_behind, transport_same}
use Rattle.packet_spec.proofs.LayoutLaws.{tcp_segment, udp_length_there, long_enough}
use Rattle.packet_spec.proofs.KeptLaws.{Keeps}
use Rattle.packet_spec.proofs.EditLaws.{Edited, edited_source, edited_destination, edited_clamp, edited_ttl}
use Rattle.packet_spec.proofs.EditLaws.{edited_header_sum, edited_segment_sum}
use Rattle.packet_spec.proofs.RightLaws.{header_right}
use Rattle.packet_spec.proofs.FineLaws.{header_kept, total_kept, has_header_kept, fine_kept, fine_after, edited_all}
use Rattle.packet_spec.proofs.AgreeLaws.{Agree, agree_range, agree_address_at}
use Rattle.packet_spec.proofs.PlaceLaws.{Reads, byte_apart, key_reads, key_from, key_proto, same_bits}
use Rattle.packet_spec.proofs.PlaceLaws.{reads_header_sum, reads_segment_sum, reads_clamp, reads_ttl, reads_source}
use Rattle.packet_spec.proofs.PlaceLaws.{reads_destination}

-- ---- from its parts

whole_kept : (start : ℕ) (p q : List ℕ) → Keeps start p q → IsWhole p → IsWhole q
whole_kept start p q k w =
    let header = header_kept start p q k in
    let total = total_kept start p q k in
    let len = k.same_length in
    let a = w.header in
    let b = w.within in
    let c = w.total in
    let d = w.most in
    record { header = omega arith; within = omega arith; total = omega arith; most = omega arith }

becomes : (p q : List ℕ) (key : FlowKey) (ttl : ℕ) → packet_fault p ≡ None → packet_fault q ≡ None
    → Edited (header_length p) p q
    → Reads (header_length p) q key ttl (get_or p (header_length p + 13) 0) → carried p ≡ key.proto
    → Becomes p q key ttl
becomes p q key ttl fine after e r proto =
    let header = header_kept (header_length p) p q e.keeps in
    let same : carried q ≡ carried p = ap (λ (n : ℕ). if n == 6 then Tcp else Udp) e.keeps.number in
    let bits = same_bits p q fine after same (ap (λ (n : ℕ). get_or q (n + 13) 0) header ∙ r.bits) in
    record {
      sound = record { bytes = e.bytes; fine = after };
      as_long = e.keeps.same_length;
      whole = whole_kept (header_length p) p q e.keeps;
      key_is = key_from q (header_length p) key ttl (get_or p (header_length p + 13) 0) after header (same ∙ proto) r;
      hops = r.hops;
      syn = bits.syn;
      ack = bits.ack;
      rst = bits.rst;
    }

-- once both checksums are computed
sums_become : (p q : List ℕ) (key : FlowKey) (ttl : ℕ) → IsSound p → Edited (header_length p) p q
    → Reads (header_length p) q key ttl (get_or p (header_length p + 13) 0) → carried p ≡ key.proto
    → Becomes p (put_sums (layout_of p) q) key ttl
unfolding layout_of
sums_become p q key ttl s e r proto =
    let long = (has_header p (header_is_fine p s.fine)).header in
    let headed = edited_header_sum (layout_of p) p q long e in
    let summed = edited_segment_sum (layout_of p) p (put_header_sum (layout_of p) q) long headed in
    let reads = reads_header_sum (layout_of p) q key ttl (get_or p (header_length p + 13) 0) long r in
    becomes p (put_sums (layout_of p) q) key ttl s.fine (fine_after p q s.bytes s.fine e) summed
    (reads_segment_sum (layout_of p) (put_header_sum (layout_of p) q) key ttl
    (get_or p (header_length p + 13) 0) long reads) proto

-- ---- each edit

record Room (p : List ℕ) : Type 0 where
  long : 20 ≤ header_length p
  ports : header_length p + 4 ≤ length p

room : (p : List ℕ) → packet_fault p ≡ None → Room p
room p fine =
    let u = udp_length_there p fine in
    record { long = (has_header p (header_is_fine p fine)).header; ports = omega arith }

pub set_source_becomes : (ip : Ip4) (port : ℕ) (p : List ℕ) → IsSound p → IsEnd ip port
    → Becomes p (set_source ip port p) (from_end ip port (key_of p)) (ttl_of p)
unfolding set_source layout_of
set_source_becomes ip port p s end =
    let r = room p s.fine in
    sums_become p (put_source (layout_of p) ip port p) (from_end ip port (key_of p)) (ttl_of p) s
    (edited_source (layout_of p) ip port p p r.long end.address end.port_fits (edited_all p s.bytes))
    (reads_source (layout_of p) ip port p (key_of p) (ttl_of p) _ r.long r.ports (key_reads p s.fine))
    (sym (key_proto p))

pub set_destination_becomes : (ip : Ip4) (port : ℕ) (p : List ℕ) → IsSound p → IsEnd ip port
    → Becomes p (set_destination ip port p) (to_end ip port (key_of p)) (ttl_of p)
unfolding set_destination layout_of
set_destination_becomes ip port p s end =
    let r = room p s.fine in
    sums_become p (put_destination (layout_of p) ip port p) (to_end ip port (key_of p)) (ttl_of p) s
    (edited_destination (layout_of p) ip port p p r.long end.address end.port_fits (edited_all p s.bytes))
    (reads_destination (layout_of p) ip port p (key_of p) (ttl_of p) _ r.long r.ports (key_reads p s.fine))
    (sym (key_proto p))

pub clamp_mss_becomes : (p : List ℕ) → IsSound p → Becomes p (clamp_mss p) (key_of p) (ttl_of p)
unfolding clamp_mss layout_of
clamp_mss_becomes p s =
    let r = room p s.fine in
    sums_become p (clamp (layout_of p) p) (key_of p) (ttl_of p) s
    (edited_clamp (layout_of p) p p r.long (edited_all p s.bytes))
    (reads_clamp (layout_of p) p (key_of p) (ttl_of p) _ r.long (key_reads p s.fine))
    (sym (key_proto p))

pub translate_source_becomes : (ip : Ip4) (port : ℕ) (p : List ℕ) → IsSound p → IsEnd ip port
    → Becomes p (translate_source ip port p) (from_end ip port (key_of p)) (ttl_of p)
unfolding translate_source layout_of
translate_source_becomes ip port p s end =
    let r = room p s.fine in
    let clamped = edited_clamp (layout_of p) p p r.long (edited_all p s.bytes) in
    let same = clamped.keeps.same_length in
    let ports = r.ports in
    sums_become p (put_source (layout_of p) ip port (clamp (layout_of p) p)) (from_end ip port (key_of p)) (ttl_of p) s
    (edited_source (layout_of p) ip port p (clamp (layout_of p) p) r.long end.address end.port_fits clamped)
    (reads_source (layout_of p) ip port (clamp (layout_of p) p) (key_of p) (ttl_of p) _ r.long (omega arith)
    (reads_clamp (layout_of p) p (key_of p) (ttl_of p) _ r.long (key_reads p s.fine)))
    (sym (key_proto p))

pub translate_destination_becomes : (ip : Ip4) (port d : ℕ) (p : List ℕ) → IsSound p → IsEnd ip port
    → Becomes p (translate_destination ip port d p) (to_end ip port (key_of p)) (ttl_of p - d)
unfolding translate_destination layout_of
translate_destination_becomes ip port d p s end =
    let r = room p s.fine in
    let byte = s.bytes 8 in
    let small : ttl_of p - d < 256 = omega arith in
    let clamped = edited_clamp (layout_of p) p p r.long (edited_all p s.bytes) in
    let lowered = edited_ttl (header_length p) (ttl_of p - d) p (clamp (layout_of p) p) r.long small clamped in
    let same = clamped.keeps.same_length in
    let as_long = lowered.keeps.same_length in
    let ports = r.ports in
    let long = r.long in
    sums_become p (put_destination (layout_of p) ip port (put_ttl (ttl_of p - d) (clamp (layout_of p) p)))
    (to_end ip port (key_of p)) (ttl_of p - d) s
    (edited_destination (layout_of p) ip port p
    (put_ttl (ttl_of p - d) (clamp (layout_of p) p)) r.long end.address end.port_fits lowered)
    (reads_destination (layout_of p) ip port (put_ttl (ttl_of p - d) (clamp (layout_of p) p)) (key_of p)
    (ttl_of p - d) _ r.long (omega arith)
    (reads_ttl (header_length p) (clamp (layout_of p) p) (key_of p) (ttl_of p) _ (ttl_of p - d) r.long (omega arith)
    (reads_clamp (layout_of p) p (key_of p) (ttl_of p) _ r.long (key_reads p s.fine))))
    (sym (key_proto p))

-- ---- the time to live alone, with the header's checksum

pub hops_elsewhere : (l : Layout) (v : ℕ) (p : List ℕ) (i : ℕ) → i ≢ 8 → i ≢ 10 → i ≢ 10 + 1
    → get_or (put_header_sum l (put_ttl v p)) i 0 ≡ get_or p i 0
unfolding put_header_sum put_ttl
hops_elsewhere l v p i a b c =
    byte_apart (put_word (put_ttl v p) 10 0) i 10 _ b c ∙ byte_apart (put_ttl v p) i 10 0 b c
    ∙ get_or-set_other p 8 i v 0 a

pub hops_edited : (v : ℕ) (p : List ℕ) → v < 256 → IsSound p
    → Edited (header_length p) p (put_header_sum (layout_of p) (put_ttl v p))
unfolding layout_of
hops_edited v p small s =
    let long = (has_header p (header_is_fine p s.fine)).header in
    edited_header_sum (layout_of p) p (put_ttl v p) long
    (edited_ttl (header_length p) v p p long small (edited_all p s.bytes))

hops_agree : (v : ℕ) (p : List ℕ) → v < 256 → IsSound p
    → Agree (λ i. (12 ≤ i) × (i < length p)) (put_header_sum (layout_of p) (put_ttl v p)) p
hops_agree v p small s =
    let len = (hops_edited v p small s).keeps.same_length in
    record {
      left = λ i h. let l = h.1 in omega arith;
      right = λ i h. h.1;
      same = λ i h. let low = h.0 in hops_elsewhere (layout_of p) v p i (omega arith) (omega arith) (omega arith);
    }

pub hops_payload : (v : ℕ) (p : List ℕ) → v < 256 → IsSound p
    → payload_of (put_header_sum (layout_of p) (put_ttl v p)) ≡ payload_of p
hops_payload v p small s =
    let h = has_header p (header_is_fine p s.fine) in
    let e = hops_edited v p small s in
    let len = e.keeps.same_length in
    let long = h.header in
    let total = h.total in
    let header_same = header_kept (header_length p) p (put_header_sum (layout_of p) (put_ttl v p)) e.keeps in
    let total_same = total_kept (header_length p) p (put_header_sum (layout_of p) (put_ttl v p)) e.keeps in
    let room_q : total_length p ≤ length (put_header_sum (layout_of p) (put_ttl v p)) = omega arith in
    let range = agree_range (λ i. (12 ≤ i) × (i < length p)) (put_header_sum (layout_of p) (put_ttl v p)) p
    (header_length p) (total_length p)
    (hops_agree v p small s) room_q total (λ i low up. (omega arith, omega arith)) in
    let hq = has_header_kept (header_length p) p (put_header_sum (layout_of p) (put_ttl v p)) e.keeps h in
    sym (tcp_segment (put_header_sum (layout_of p) (put_ttl v p)) hq)
    ∙ ap (λ (n : ℕ). slice_range (put_header_sum (layout_of p) (put_ttl v p)) n
    (total_length (put_header_sum (layout_of p) (put_ttl v p)))) header_same
    ∙ ap (λ (n : ℕ). slice_range (put_header_sum (layout_of p) (put_ttl v p)) (header_length p) n) total_same
    ∙ range ∙ tcp_segment p h

hops_right : (v : ℕ) (p : List ℕ) → v < 256 → IsSound p
    → ones_sum (take (header_length p) (put_header_sum (layout_of p) (put_ttl v p))) ≡ 65535
unfolding layout_of
hops_right v p small s =
    let h = has_header p (header_is_fine p s.fine) in
    let b = h.within in
    let c = h.total in
    let e = edited_ttl (header_length p) v p p h.header small (edited_all p s.bytes) in
    let len = e.keeps.same_length in
    header_right (layout_of p) (put_ttl v p) h.header (omega arith) e.bytes

hops_fine : (v : ℕ) (p : List ℕ) → v < 256 → IsSound p → packet_fault (put_header_sum (layout_of p) (put_ttl v p))
    ≡ None
hops_fine v p small s =
    let head = header_is_fine p s.fine in
    let h = has_header p head in
    let a = h.header in
    let b = h.within in
    let c = h.total in
    let e = hops_edited v p small s in
    let len = e.keeps.same_length in
    let agree = hops_agree v p small s in
    let source = agree_address_at (λ i. (12 ≤ i) × (i < length p))
    (put_header_sum (layout_of p) (put_ttl v p)) p 12 agree (λ i low up. (omega arith, omega arith)) in
    let destination =
    agree_address_at (λ i. (12 ≤ i) × (i < length p)) (put_header_sum (layout_of p) (put_ttl v p)) p 16 agree
    (λ i low up. (omega arith, omega arith)) in
    let header_same = header_kept (header_length p) p (put_header_sum (layout_of p) (put_ttl v p)) e.keeps in
    let right = hops_right v p small s in
    let sum : ones_sum (header_of (put_header_sum (layout_of p) (put_ttl v p))) ≡ 65535 =
    ap (λ (n : ℕ). ones_sum (take n (put_header_sum (layout_of p) (put_ttl v p)))) header_same ∙ right in
    let fine_header =
    fine_is (put_header_sum (layout_of p) (put_ttl v p))
    (fine_kept (header_length p) p (put_header_sum (layout_of p) (put_ttl v p)) e.keeps (is_fine p head) sum) in
    fault_behind (put_header_sum (layout_of p) (put_ttl v p)) fine_header
    ∙ ap (λ (n : ℕ). transport_fault (proto_of n) (put_header_sum (layout_of p) (put_ttl v p))) e.keeps.number
    ∙ transport_same (proto_of (protocol_of p)) p (put_header_sum (layout_of p) (put_ttl v p)) source destination
    (hops_payload v p small s)
    ∙ sym (fault_behind p head) ∙ s.fine

pub hops_become : (v : ℕ) (p : List ℕ) → v < 256 → IsSound p
    → Becomes p (put_header_sum (layout_of p) (put_ttl v p)) (key_of p) v
unfolding layout_of
hops_become v p small s =
    let r = room p s.fine in
    let long = r.long in
    let ports = r.ports in
    becomes p (put_header_sum (layout_of p) (put_ttl v p)) (key_of p) v s.fine (hops_fine v p small s)
    (hops_edited v p small s)
    (reads_header_sum (layout_of p) (put_ttl v p) (key_of p) v _ r.long
    (reads_ttl (header_length p) p (key_of p) (ttl_of p) _ v r.long (omega arith) (key_reads p s.fine)))
    (sym (key_proto p))

-- nothing changed
pub stays : (p : List ℕ) → IsSound p → Becomes p p (key_of p) (ttl_of p)
stays p s = record {
  sound = s;
  as_long = refl;
  whole = λ w. w;
  key_is = refl;
  hops = refl;
  syn = refl;
  ack = refl;
  rst = refl;
}
