-- TCP segments (RFC 9293, section 3.1) and UDP datagrams (RFC 768).
use Rattle.std.specs.Prelude.{ℕ, ◌≤◌, ◌/◌, ◌%◌, Bool, false, not, ◌&&◌, ◌||◌, ◌==◌, nat_lt, List, [], ◌∷◌, ◌++◌}
use Rattle.std.specs.Prelude.{length, take, slice_index, Option, Some, None, Result, if◌then◌else◌}
use Rattle.wire_core.specs.declared.address.Ip4.{Ip4}
use Rattle.wire_core.specs.declared.flow.Proto.{Proto}
use Rattle.wire_core.specs.declared.flow.Proto.TheVariants.{Tcp, Udp}
use Rattle.packet_spec.specs.declared.fault.SegmentFault.{SegmentFault}
use Rattle.packet_spec.specs.declared.fault.SegmentFault.TheVariants.{Short, DataOffset, Length, Sum}
use Rattle.packet_spec.specs.Words.{word_at, word_bytes, address_bytes}
use Rattle.packet_spec.specs.Sums.{ones_sum}
use Rattle.packet_spec.specs.Options.{data_words, data_offset, mss_at}
use Rattle.packet_spec.specs.Headers.{unless_fault}

-- a segment, with the protocol that says how to read it
pub record Segment : Type 0 where
  pub proto : Proto
  pub bytes : List ℕ

-- the protocol's number in the IPv4 header
abbrev pub proto_number : Proto → ℕ
proto_number Tcp = 6
proto_number Udp = 17

abbrev pub source_port : List ℕ → ℕ
source_port s = word_at s 0

abbrev pub destination_port : List ℕ → ℕ
destination_port s = word_at s 2

-- UDP's length, of header and data
abbrev pub udp_length : List ℕ → ℕ
udp_length s = word_at s 4

-- where the checksum stands
abbrev pub sum_place : Proto → ℕ
sum_place Tcp = 16
sum_place Udp = 6

-- TCP's control bits, in byte 13; UDP has none
abbrev pub is_syn : Proto → List ℕ → Bool
is_syn Tcp s = slice_index s 13 / 2 % 2 == 1
is_syn Udp s = false

abbrev pub is_rst : Proto → List ℕ → Bool
is_rst Tcp s = slice_index s 13 / 4 % 2 == 1
is_rst Udp s = false

abbrev pub is_ack : Proto → List ℕ → Bool
is_ack Tcp s = slice_index s 13 / 16 % 2 == 1
is_ack Udp s = false

-- the pseudo-header: both addresses, a zero byte, the protocol, the segment's length
unfoldable pub pseudo_header : Proto → Ip4 → Ip4 → ℕ → List ℕ
pseudo_header proto src dst len =
    address_bytes src ++ address_bytes dst ++ 0 ∷ proto_number proto ∷ [] ++ word_bytes len

-- what the checksum of a segment covers
abbrev pub covered : Proto → Ip4 → Ip4 → List ℕ → List ℕ
covered proto src dst s = pseudo_header proto src dst (length s) ++ s

-- the sum isn't FFFF
abbrev pub is_sum_wrong : Proto → Ip4 → Ip4 → List ℕ → Bool
is_sum_wrong proto src dst s = not (ones_sum (covered proto src dst s) == 65535)

-- the header's length has no room for the fixed fields, or goes past the end
abbrev pub is_offset_wrong : List ℕ → Bool
is_offset_wrong s = nat_lt (data_words s) 5 || nat_lt (length s) (data_offset s)

abbrev pub tcp_fault : Ip4 → Ip4 → List ℕ → Option SegmentFault
tcp_fault src dst s =
    if nat_lt (length s) 20 then Some Short
    else if is_offset_wrong s then Some DataOffset
    else if is_sum_wrong Tcp src dst s then Some Sum
    else None

-- UDP's length has no room for the header, or goes past the end
abbrev pub is_length_wrong : List ℕ → Bool
is_length_wrong s = nat_lt (udp_length s) 8 || nat_lt (length s) (udp_length s)

-- UDP's checksum is wrong; 0 stands for none
abbrev pub is_udp_sum_wrong : Ip4 → Ip4 → List ℕ → Bool
is_udp_sum_wrong src dst s = not (word_at s 6 == 0) && is_sum_wrong Udp src dst s

abbrev pub udp_fault : Ip4 → Ip4 → List ℕ → Option SegmentFault
udp_fault src dst s =
    if nat_lt (length s) 8 then Some Short
    else if is_length_wrong s then Some Length
    else if is_udp_sum_wrong src dst (take (udp_length s) s) then Some Sum
    else None

-- the first fault of a segment
unfoldable pub segment_fault : Proto → Ip4 → Ip4 → List ℕ → Option SegmentFault
segment_fault Tcp src dst s = tcp_fault src dst s
segment_fault Udp src dst s = udp_fault src dst s

-- the fewest bytes of a segment
abbrev pub least_length : Proto → ℕ
least_length Tcp = 20
least_length Udp = 8

-- where the options of a segment end; UDP has none
abbrev pub options_end : Proto → List ℕ → ℕ
options_end Tcp s = data_offset s
options_end Udp s = 0

-- a segment has its fixed fields, and its options within it
pub record HasFields (proto : Proto) (s : List ℕ) : Type 0 where
  pub fields : least_length proto ≤ length s
  pub options : options_end proto s ≤ length s

-- where a segment carries its maximum segment size; UDP has none
abbrev pub segment_mss : Proto → List ℕ → Option ℕ
segment_mss Tcp s = mss_at s
segment_mss Udp s = None

-- the bytes of a segment: all for TCP, as many as its length says for UDP
abbrev pub segment_bytes : Proto → List ℕ → List ℕ
segment_bytes Tcp s = s
segment_bytes Udp s = take (udp_length s) s

-- reading a segment: its bytes, or the first fault
unfoldable pub read_segment : Proto → Ip4 → Ip4 → List ℕ → Result Segment SegmentFault
read_segment proto src dst s =
    unless_fault (segment_fault proto src dst s) (record { proto = proto; bytes = segment_bytes proto s })
