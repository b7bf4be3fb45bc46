-- Translating a packet without fault: which bytes change. Every other byte stays, and so does the layout.
use Rattle.std.specs.Prelude.{ℕ, ◌+◌, ◌-◌, Bool, false, ◌==◌, nat_lt, List, take, slice_set, slice_range, Option}
use Rattle.std.specs.Prelude.{Some, None, if◌then◌else◌}
use Rattle.wire_core.specs.declared.address.Ip4.{Ip4}
use Rattle.wire_core.specs.declared.flow.Proto.{Proto}
use Rattle.wire_core.specs.declared.flow.Proto.TheVariants.{Tcp, Udp}
use Rattle.packet_spec.specs.declared.layout.Layout.{Layout}
use Rattle.packet_spec.specs.Words.{word_at, put_word, put_address}
use Rattle.packet_spec.specs.Sums.{checksum}
use Rattle.packet_spec.specs.Headers.{header_length, total_length, ttl_of, source_of, destination_of, whole}
use Rattle.packet_spec.specs.Segments.{sum_place, covered, is_syn}
use Rattle.packet_spec.specs.Options.{mss_at}
use Rattle.packet_spec.specs.Packets.{carried}

-- where a segment ends: TCP's at the total length, UDP's where its own length says
abbrev pub segment_end : Proto → List ℕ → ℕ
segment_end Tcp p = total_length p
segment_end Udp p = header_length p + word_at p (header_length p + 4)

-- where the parts of a packet lie
unfoldable pub layout_of : List ℕ → Layout
layout_of p = record { proto = carried p; start = header_length p; end = segment_end (carried p) p }

-- the segment of a packet
abbrev pub segment_in : Layout → List ℕ → List ℕ
segment_in l p = slice_range p l.start l.end

-- source address and port set
unfoldable pub put_source : Layout → Ip4 → ℕ → List ℕ → List ℕ
put_source l ip port p = put_word (put_address p 12 ip) l.start port

-- destination address and port set
unfoldable pub put_destination : Layout → Ip4 → ℕ → List ℕ → List ℕ
put_destination l ip port p = put_word (put_address p 16 ip) (l.start + 2) port

-- the time to live set
unfoldable pub put_ttl : ℕ → List ℕ → List ℕ
put_ttl ttl p = slice_set p 8 ttl

-- the greatest maximum segment size that leaves room for a second header within 1,500 bytes (1440)
abbrev pub greatest_mss : ℕ
greatest_mss = 1440

-- a word that is greater than that is set to it
abbrev pub lower_word : Option ℕ → List ℕ → List ℕ
lower_word None p = p
lower_word (Some at) p = if nat_lt greatest_mss (word_at p at) then put_word p at greatest_mss else p

-- a place in the segment as a place in the packet
abbrev pub placed : ℕ → Option ℕ → Option ℕ
placed start None = None
placed start (Some at) = Some (start + at)

-- the place of the maximum segment size that a SYN carries
abbrev pub syn_mss : Proto → List ℕ → Option ℕ
syn_mss proto s = if is_syn proto s then mss_at s else None

-- the maximum segment size of a SYN lowered to 1440, where it is greater
unfoldable pub clamp : Layout → List ℕ → List ℕ
clamp l p = lower_word (placed l.start (syn_mss l.proto (segment_in l p))) p

-- a checksum computed over bytes that have 0 in its place
abbrev pub put_checksum : ℕ → (List ℕ → ℕ) → List ℕ → List ℕ
put_checksum at sum p = put_word (put_word p at 0) at (sum (put_word p at 0))

-- the header checksum computed (RFC 791, section 3.1)
unfoldable pub put_header_sum : Layout → List ℕ → List ℕ
put_header_sum l p = put_checksum 10 (λ q. checksum (take l.start q)) p

-- a computed checksum as it is sent: UDP sends 0 as FFFF, for its 0 says that there is none (RFC 768)
abbrev pub sent_sum : Proto → ℕ → ℕ
sent_sum Tcp sum = sum
sent_sum Udp sum = if sum == 0 then 65535 else sum

-- the checksum of pseudo-header and segment
abbrev pub segment_sum : Layout → List ℕ → ℕ
segment_sum l p = sent_sum l.proto (checksum (covered l.proto (source_of p) (destination_of p) (segment_in l p)))

-- a UDP segment that is sent without a checksum
abbrev pub lacks_sum : Proto → ℕ → Bool
lacks_sum Tcp sum = false
lacks_sum Udp sum = sum == 0

-- the segment's checksum computed; where UDP has none it stays so
unfoldable pub put_segment_sum : Layout → List ℕ → List ℕ
put_segment_sum l p =
    if lacks_sum l.proto (word_at p (l.start + sum_place l.proto)) then p
    else put_checksum (l.start + sum_place l.proto) (segment_sum l) p

-- both checksums computed
abbrev pub put_sums : Layout → List ℕ → List ℕ
put_sums l p = put_segment_sum l (put_header_sum l p)

-- the three edits of a packet, with its checksums right
unfoldable pub set_source : Ip4 → ℕ → List ℕ → List ℕ
set_source ip port p = put_sums (layout_of p) (put_source (layout_of p) ip port p)

unfoldable pub set_destination : Ip4 → ℕ → List ℕ → List ℕ
set_destination ip port p = put_sums (layout_of p) (put_destination (layout_of p) ip port p)

unfoldable pub clamp_mss : List ℕ → List ℕ
clamp_mss p = put_sums (layout_of p) (clamp (layout_of p) p)

-- what leaves for the network: the source set, the maximum segment size clamped
unfoldable pub translate_source : Ip4 → ℕ → List ℕ → List ℕ
translate_source ip port p = put_sums (layout_of p) (put_source (layout_of p) ip port (clamp (layout_of p) p))

-- what is handed to a machine: the destination set, the time to live lowered, the maximum segment size clamped
unfoldable pub translate_destination : Ip4 → ℕ → ℕ → List ℕ → List ℕ
translate_destination ip port d p =
    put_sums (layout_of p) (put_destination (layout_of p) ip port (put_ttl (ttl_of p - d) (clamp (layout_of p) p)))

-- the same of a packet that may have bytes past its total length, which are cut
unfoldable pub translated : Ip4 → ℕ → List ℕ → List ℕ
translated ip port p = translate_source ip port (whole p)

unfoldable pub restored : Ip4 → ℕ → ℕ → List ℕ → List ℕ
restored ip port d p = translate_destination ip port d (whole p)
