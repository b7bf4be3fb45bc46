-- An edited packet, once both checksums are computed, has no fault.
use Rattle.std.proofs.Common.{◌≡◌, ℕ, ◌+◌, ◌-◌, ◌*◌, ◌/◌, ◌%◌, ◌^◌, ◌<◌, ◌≤◌, ◌==◌, ◌||◌, not, Bool, true, false}
use Rattle.std.proofs.Common.{if◌then◌else◌, List, length, take, drop, get_or, slice_index, Option, Some, None, refl}
use Rattle.std.proofs.Common.{sym, ap, ◌∙◌, subst, arith, lit<}
use Rattle.std.proofs.lemmas.List.{take-take, get_or-take, get_or-drop}
use Rattle.std.specs.List.{slice_range}
use Rattle.wire_core.specs.declared.address.Ip4.{Ip4}
use Rattle.wire_core.specs.declared.flow.Proto.{Proto}
use Rattle.wire_core.specs.declared.flow.Proto.TheVariants.{Tcp, Udp}
use Rattle.packet_spec.specs.declared.layout.Layout.{Layout}
use Rattle.packet_spec.specs.Words.{word_at, put_word}
use Rattle.packet_spec.specs.Sums.{ones_sum}
use Rattle.packet_spec.specs.Headers.{header_words, header_length, total_length, header_of, protocol_of, source_of}
use Rattle.packet_spec.specs.Headers.{destination_of, payload_of, is_fragment}
use Rattle.packet_spec.specs.Options.{data_words, data_offset}
use Rattle.packet_spec.specs.Segments.{segment_fault, covered, sum_place, udp_length}
use Rattle.packet_spec.specs.Packets.{packet_fault, proto_of, transport_fault, in_segment, carried}
use Rattle.packet_spec.specs.Edits.{layout_of, put_source, put_destination, put_ttl, clamp, segment_end, segment_in}
use Rattle.packet_spec.specs.Edits.{put_header_sum, put_segment_sum, put_sums, lacks_sum}
use Rattle.packet_spec.proofs.PacketLaws.{HasHeader, has_header, IsFine, is_fine, fine_is, header_is_fine}
use Rattle.packet_spec.proofs.PacketLaws.{segment_is_fine, has_fields, udp_within, length-payload, payload_byte}
use Rattle.packet_spec.proofs.PacketLaws.{payload_word, fault_behind}
use Rattle.packet_spec.specs.Layouts.{LiesWithin}
use Rattle.packet_spec.proofs.LayoutLaws.{tcp_segment, fits_for}
use Rattle.packet_spec.proofs.SumLaws.{IsBytes}
use Rattle.packet_spec.proofs.KeptLaws.{Keeps, keeps_all}
use Rattle.packet_spec.proofs.EditLaws.{Edited, edited_source, edited_destination, edited_clamp, edited_ttl}
use Rattle.packet_spec.proofs.EditLaws.{edited_header_sum, edited_segment_sum}
use Rattle.packet_spec.proofs.RightLaws.{header_right, segment_right, segment_unsummed, take_put_behind}

-- a segment that passes the tests has no fault
pub tcp_fine : (src dst : Ip4) (s : List ℕ) → 20 ≤ length s → 5 ≤ data_words s → data_offset s ≤ length s
    → ones_sum (covered Tcp src dst s) ≡ 65535 → segment_fault Tcp src dst s ≡ None
unfolding segment_fault
tcp_fine src dst s long least within sum = grind arith

pub udp_fine : (src dst : Ip4) (s : List ℕ) → 8 ≤ length s → 8 ≤ udp_length s → udp_length s ≤ length s
    → ((word_at (take (udp_length s) s) 6 == 0) ≡ false → ones_sum (covered Udp src dst (take (udp_length s) s))
    ≡ 65535) → segment_fault Udp src dst s ≡ None
unfolding segment_fault
udp_fine src dst s long least within sum = grind arith

pub tcp_offset : (src dst : Ip4) (s : List ℕ) → segment_fault Tcp src dst s ≡ None → 5 ≤ data_words s
unfolding segment_fault
tcp_offset src dst s fine = grind arith

-- the transport of a packet without fault is known
pub transport_known : (p : List ℕ) → packet_fault p ≡ None → proto_of (protocol_of p) ≡ Some (carried p)
unfolding packet_fault
transport_known p fine = grind arith

-- a datagram's bytes in its packet
pub udp_segment : (p : List ℕ) → HasHeader p → 8 ≤ udp_length (payload_of p)
    → udp_length (payload_of p) ≤ length (payload_of p)
    → take (udp_length (payload_of p)) (payload_of p)
    ≡ slice_range p (header_length p) (header_length p + word_at p (header_length p + 4))
udp_segment p h least within =
    let len = length-payload p h in
    let k : header_length p + 4 + 1 < total_length p = omega arith in
    let w = payload_word p 4 h k in
    let few : udp_length (payload_of p) ≤ total_length p - header_length p = omega arith in
    let back : header_length p + word_at p (header_length p + 4) - header_length p ≡ udp_length (payload_of p) =
    omega arith in
    ap (λ (x : List ℕ). take (udp_length (payload_of p)) x) (sym (tcp_segment p h))
    ∙ take-take (udp_length (payload_of p)) (total_length p - header_length p) (drop (header_length p) p) few
    ∙ ap (λ (n : ℕ). take n (drop (header_length p) p)) (sym back)

-- what an edit keeps, in the words of the header
pub header_kept : (start : ℕ) (p t : List ℕ) → Keeps start p t → header_length t ≡ header_length p
header_kept start p t k = ap (λ (x : ℕ). 4 * (x % 16)) (k.front 0 (lit< tt))

pub total_kept : (start : ℕ) (p t : List ℕ) → Keeps start p t → total_length t ≡ total_length p
total_kept start p t k = let a = k.front 2 (lit< tt) in let b = k.front 3 (lit< tt) in omega (arith, a, b)

pub has_header_kept : (start : ℕ) (p t : List ℕ) → Keeps start p t → HasHeader p → HasHeader t
has_header_kept start p t k h =
    let a = header_kept start p t k in
    let b = total_kept start p t k in
    let c = k.same_length in
    let x = h.header in
    let y = h.within in
    let z = h.total in
    record { header = omega arith; within = omega arith; total = omega arith }

pub fine_kept : (start : ℕ) (p t : List ℕ) → Keeps start p t → IsFine p → ones_sum (header_of t) ≡ 65535 → IsFine t
fine_kept start p t k f sum =
    let a = header_kept start p t k in
    let b = total_kept start p t k in
    let c = k.same_length in
    let x = f.long in
    let y = f.within in
    let z = f.total in
    let w = f.header in
    let b0 = k.front 0 (lit< tt) in
    let b6 = k.front 6 (lit< tt) in
    let b7 = k.front 7 (lit< tt) in
    let words : header_words t ≡ header_words p = ap (λ (x : ℕ). x % 16) b0 in
    let w6 : word_at t 6 ≡ word_at p 6 = omega (arith, b6, b7) in
    let alone : is_fragment t ≡ is_fragment p = ap (λ (x : ℕ). (x / 32 % 2 == 1) || not (word_at t 6 % 8192 == 0)) b6
    ∙ ap (λ (x : ℕ). (slice_index p 6 / 32 % 2 == 1) || not (x % 8192 == 0)) w6 in
    record {
      long = omega arith;
      version_is = ap (λ (x : ℕ). x / 16) b0 ∙ f.version_is;
      header = omega arith;
      within = omega arith;
      total = omega arith;
      sum = sum;
      alone = alone ∙ f.alone;
    }

-- a word of a part of the bytes
pub range_word : (t : List ℕ) (h e i : ℕ) → i + 1 < e - h → word_at (slice_range t h e) i ≡ word_at t (h + i)
range_word t h e i lt =
    let first : i < e - h = omega arith in
    let a = get_or-take (e - h) (drop h t) i 0 first ∙ get_or-drop h t i 0 in
    let b = get_or-take (e - h) (drop h t) (i + 1) 0 lt ∙ get_or-drop h t (i + 1) 0 in
    let place : h + (i + 1) ≡ h + i + 1 = omega arith in
    let c = ap (λ (n : ℕ). get_or t n 0) place in
    omega (arith, a, b, c)

-- the segment of an edited packet, whose sum is right where it has one
pub segment_kept : (proto : Proto) (p t : List ℕ) → HasHeader p → Keeps (header_length p) p t
    → segment_fault proto (source_of p) (destination_of p) (payload_of p) ≡ None
    → (lacks_sum proto (word_at t (header_length p + sum_place proto)) ≡ false
    → ones_sum (covered proto (source_of t) (destination_of t)
    (slice_range t (header_length p) (segment_end proto p))) ≡ 65535)
    → segment_fault proto (source_of t) (destination_of t) (payload_of t) ≡ None
segment_kept Tcp p t h k fine sum =
    let g = has_header_kept (header_length p) p t k h in
    let a = header_kept (header_length p) p t k in
    let b = total_kept (header_length p) p t k in
    let f = has_fields Tcp (source_of p) (destination_of p) (payload_of p) fine in
    let long = f.fields in
    let options = f.options in
    let least = tcp_offset (source_of p) (destination_of p) (payload_of p) fine in
    let lp = length-payload p h in
    let lt = length-payload t g in
    let ip = payload_byte p 12 h (omega arith) in
    let it = payload_byte t 12 g (omega arith) in
    let moved = ap (λ (n : ℕ). get_or t (n + 12) 0) a in
    let byte : get_or (payload_of t) 12 0 ≡ get_or (payload_of p) 12 0 = it ∙ moved ∙ k.offset ∙ sym ip in
    let words : data_words (payload_of t) ≡ data_words (payload_of p) = ap (λ (x : ℕ). x / 16) byte in
    let same : slice_range t (header_length p) (total_length p) ≡ payload_of t =
    ap (λ (n : ℕ). slice_range t n (total_length p)) (sym a)
    ∙ ap (λ (n : ℕ). slice_range t (header_length t) n) (sym b) ∙ tcp_segment t g in
    tcp_fine (source_of t) (destination_of t) (payload_of t) (omega arith) (omega arith) (omega arith)
    (ap (λ (s : List ℕ). ones_sum (covered Tcp (source_of t) (destination_of t) s)) (sym same) ∙ sum refl)
segment_kept Udp p t h k fine sum =
    let g = has_header_kept (header_length p) p t k h in
    let a = header_kept (header_length p) p t k in
    let b = total_kept (header_length p) p t k in
    let f = udp_within (source_of p) (destination_of p) (payload_of p) fine in
    let least = f.0 in
    let within = f.1 in
    let lp = length-payload p h in
    let lt = length-payload t g in
    let wp = payload_word p 4 h (omega arith) in
    let wt = payload_word t 4 g (omega arith) in
    let moved = ap (λ (n : ℕ). word_at t (n + 4)) a in
    let high = k.length_high in
    let low = k.length_low in
    let there : word_at t (header_length p + 4) ≡ word_at p (header_length p + 4) = omega (arith, high, low) in
    let size : udp_length (payload_of t) ≡ udp_length (payload_of p) = wt ∙ moved ∙ there ∙ sym wp in
    let least_t : 8 ≤ udp_length (payload_of t) = omega arith in
    let within_t : udp_length (payload_of t) ≤ length (payload_of t) = omega arith in
    let bytes = udp_segment t g least_t within_t in
    let from : slice_range t (header_length t) (header_length t + word_at t (header_length t + 4))
    ≡ slice_range t (header_length p) (header_length p + word_at t (header_length p + 4)) =
    ap (λ (n : ℕ). slice_range t n (n + word_at t (n + 4))) a in
    let to : slice_range t (header_length p) (header_length p + word_at t (header_length p + 4))
    ≡ slice_range t (header_length p) (segment_end Udp p) =
    ap (λ (n : ℕ). slice_range t (header_length p) (header_length p + n)) there in
    let same : take (udp_length (payload_of t)) (payload_of t) ≡ slice_range t (header_length p) (segment_end Udp p) =
    bytes ∙ from ∙ to in
    let room : 6 + 1 < segment_end Udp p - header_length p = omega arith in
    let sum_word : word_at (take (udp_length (payload_of t)) (payload_of t)) 6 ≡ word_at t (header_length p + 6) =
    ap (λ (s : List ℕ). word_at s 6) same ∙ range_word t (header_length p) (segment_end Udp p) 6 room in
    udp_fine (source_of t) (destination_of t) (payload_of t) (omega arith) least_t within_t
    (λ e. ap (λ (s : List ℕ). ones_sum (covered Udp (source_of t) (destination_of t) s)) same
    ∙ sum (ap (λ (w : ℕ). w == 0) (sym sum_word) ∙ e))

-- what is written at the segment's checksum leaves the header
pub front_if : (n : ℕ) (x y : List ℕ) (b : Bool) → take n x ≡ take n y → take n (if b then x else y) ≡ take n x
front_if n x y true e = refl
front_if n x y false e = sym e

pub header_stays : (l : Layout) (r : List ℕ) → take l.start (put_segment_sum l r) ≡ take l.start r
unfolding put_segment_sum
header_stays l r =
    let at : ℕ = l.start + sum_place l.proto in
    let behind : l.start ≤ l.start + sum_place l.proto = omega arith in
    let twice : (w : ℕ)
    → take l.start (put_word (put_word r (l.start + sum_place l.proto) 0) (l.start + sum_place l.proto) w)
    ≡ take l.start r =
    λ w. take_put_behind l.start (put_word r (l.start + sum_place l.proto) 0) (l.start + sum_place l.proto) w behind
    ∙ take_put_behind l.start r (l.start + sum_place l.proto) 0 behind in
    front_if l.start r _ (lacks_sum l.proto (word_at r (l.start + sum_place l.proto))) (sym (twice _))

-- where a segment had a checksum before it was computed, or has one after
pub sums_kept : (l : Layout) (r : List ℕ) → LiesWithin l (length r) → IsBytes r → (b : Bool)
    → lacks_sum l.proto (word_at r (l.start + sum_place l.proto)) ≡ b
    → lacks_sum l.proto (word_at (put_segment_sum l r) (l.start + sum_place l.proto)) ≡ false
    → ones_sum (covered l.proto (source_of (put_segment_sum l r)) (destination_of (put_segment_sum l r))
    (segment_in l (put_segment_sum l r))) ≡ 65535
sums_kept l r within h false was is = segment_right l r within h was
sums_kept l r within h true was is =
    let same = segment_unsummed l r was in
    let never : true ≡ false = sym was
    ∙ ap (λ (x : List ℕ). lacks_sum l.proto (word_at x (l.start + sum_place l.proto))) (sym same) ∙ is in
    absurd (cc)

-- an edited packet has no fault once both checksums are computed
pub fine_after : (p q : List ℕ) → IsBytes p → packet_fault p ≡ None → Edited (header_length p) p q
    → packet_fault (put_sums (layout_of p) q) ≡ None
unfolding layout_of
fine_after p q bytes fine e =
    let head = header_is_fine p fine in
    let h = has_header p head in
    let long = h.header in
    let within = h.within in
    let total = h.total in
    let l : Layout = record { proto = carried p; start = header_length p; end = segment_end (carried p) p } in
    let r : List ℕ = put_header_sum
    (record { proto = carried p; start = header_length p; end = segment_end (carried p) p }) q in
    let er = edited_header_sum
    (record { proto = carried p; start = header_length p; end = segment_end (carried p) p }) p q long e in
    let et = edited_segment_sum
    (record { proto = carried p; start = header_length p; end = segment_end (carried p) p }) p
    (put_header_sum (record {
      proto = carried p;
      start = header_length p;
      end =
          segment_end (carried p) p;
    }) q) long er in
    let t : List ℕ = put_segment_sum
    (record { proto = carried p; start = header_length p; end = segment_end (carried p) p })
    (put_header_sum (record { proto = carried p; start = header_length p; end = segment_end (carried p) p }) q) in
    let length_q = e.keeps.same_length in
    let length_r = er.keeps.same_length in
    let fits = fits_for (carried p) p bytes h (segment_is_fine p fine) in
    let lies : LiesWithin (record { proto = carried p; start = header_length p; end = segment_end (carried p) p })
    (length (put_header_sum
    (record { proto = carried p; start = header_length p; end = segment_end (carried p) p }) q)) =
    subst (λ (n : ℕ). LiesWithin
    (record { proto = carried p; start = header_length p; end = segment_end (carried p) p }) n)
    (sym length_r) fits in
    let right = header_right
    (record { proto = carried p; start = header_length p; end = segment_end (carried p) p }) q long
    (omega arith) e.bytes in
    let header_at = header_kept (header_length p) p t et.keeps in
    let sum : ones_sum (header_of t) ≡ 65535 = ap (λ (n : ℕ). ones_sum (take n t)) header_at
    ∙ ap ones_sum (header_stays l r) ∙ right in
    let fine_header = fine_is t (fine_kept (header_length p) p t et.keeps (is_fine p head) sum) in
    let fine_segment = segment_kept (carried p) p t h et.keeps (segment_is_fine p fine)
    (sums_kept l r lies er.bytes _ refl) in
    let number : protocol_of t ≡ protocol_of p = et.keeps.number in
    fault_behind t fine_header
    ∙ ap (λ (n : ℕ). transport_fault (proto_of n) t) number
    ∙ ap (λ (o : Option Proto). transport_fault o t) (transport_known p fine)
    ∙ ap in_segment fine_segment

-- the layout of a packet begins its segment at the header's end
pub edited_all : (p : List ℕ) → IsBytes p → Edited (header_length p) p p
edited_all p bytes = record { keeps = keeps_all (header_length p) p; bytes = bytes }

-- each of the public edits
pub source_fine : (l : Layout) (ip : Ip4) (port : ℕ) (p : List ℕ) → l ≡ layout_of p → ip.0 < 2 ^ 32 → port < 65536
    → ((i : ℕ) → get_or p i 0 < 256) → packet_fault p ≡ None
    → packet_fault (put_sums l (put_source l ip port p)) ≡ None
unfolding layout_of
source_fine l ip port p is a b bytes fine =
    let long = (has_header p (header_is_fine p fine)).header in
    rw is (fine_after p (put_source (layout_of p) ip port p) bytes fine
    (edited_source (layout_of p) ip port p p long a b (edited_all p bytes)))

pub destination_fine : (l : Layout) (ip : Ip4) (port : ℕ) (p : List ℕ) → l ≡ layout_of p → ip.0 < 2 ^ 32
    → port < 65536 → ((i : ℕ) → get_or p i 0 < 256) → packet_fault p ≡ None
    → packet_fault (put_sums l (put_destination l ip port p)) ≡ None
unfolding layout_of
destination_fine l ip port p is a b bytes fine =
    let long = (has_header p (header_is_fine p fine)).header in
    rw is (fine_after p (put_destination (layout_of p) ip port p) bytes fine
    (edited_destination (layout_of p) ip port p p long a b (edited_all p bytes)))

pub clamp_fine : (l : Layout) (p : List ℕ) → l ≡ layout_of p → ((i : ℕ) → get_or p i 0 < 256) → packet_fault p ≡ None
    → packet_fault (put_sums l (clamp l p)) ≡ None
unfolding layout_of
clamp_fine l p is bytes fine =
    let long = (has_header p (header_is_fine p fine)).header in
    rw is (fine_after p (clamp (layout_of p) p) bytes fine (edited_clamp (layout_of p) p p long (edited_all p bytes)))

pub translated_source_fine : (l : Layout) (ip : Ip4) (port : ℕ) (p : List ℕ) → l ≡ layout_of p → ip.0 < 2 ^ 32
    → port < 65536 → ((i : ℕ) → get_or p i 0 < 256) → packet_fault p ≡ None
    → packet_fault (put_sums l (put_source l ip port (clamp l p))) ≡ None
unfolding layout_of
translated_source_fine l ip port p is a b bytes fine =
    let long = (has_header p (header_is_fine p fine)).header in
    let clamped = edited_clamp (layout_of p) p p long (edited_all p bytes) in
    rw is (fine_after p (put_source (layout_of p) ip port (clamp (layout_of p) p)) bytes fine
    (edited_source (layout_of p) ip port p (clamp (layout_of p) p) long a b clamped))

pub translated_destination_fine : (l : Layout) (ip : Ip4) (port ttl : ℕ) (p : List ℕ) → l ≡ layout_of p
    → ip.0 < 2 ^ 32 → port < 65536 → ttl < 256 → ((i : ℕ) → get_or p i 0 < 256)
    → packet_fault p ≡ None → packet_fault (put_sums l (put_destination l ip port (put_ttl ttl (clamp l p)))) ≡ None
unfolding layout_of
translated_destination_fine l ip port ttl p is a b c bytes fine =
    let long = (has_header p (header_is_fine p fine)).header in
    let clamped = edited_clamp (layout_of p) p p long (edited_all p bytes) in
    let hops = edited_ttl (header_length p) ttl p (clamp (layout_of p) p) long c clamped in
    rw is (fine_after p (put_destination (layout_of p) ip port (put_ttl ttl (clamp (layout_of p) p))) bytes fine
    (edited_destination (layout_of p) ip port p (put_ttl ttl (clamp (layout_of p) p)) long a b hops))
