-- The IPv4 header (RFC 791, section 3.1).
use Rattle.std.specs.Prelude.{◌≡◌, ◌≤◌, ℕ, ◌*◌, ◌/◌, ◌%◌, Bool, true, false, not, ◌||◌, ◌==◌, nat_lt, List, ◌∷◌, ◌++◌}
use Rattle.std.specs.Prelude.{length, take, drop, slice_index, Option, Some, None, Result, Ok, Err, if◌then◌else◌}
use Rattle.wire_core.specs.declared.address.Ip4.{Ip4}
use Rattle.packet_spec.specs.declared.fault.IpFault.{IpFault}
use Rattle.packet_spec.specs.declared.fault.IpFault.TheVariants.{Short, Version, HeaderLength, TotalLength, HeaderSum}
use Rattle.packet_spec.specs.declared.fault.IpFault.TheVariants.{Fragment}
use Rattle.packet_spec.specs.declared.header.Ip4Header.{Ip4Header}
use Rattle.packet_spec.specs.Words.{word_at, address_at, word_bytes, address_bytes}
use Rattle.packet_spec.specs.Sums.{ones_sum, checksum}

-- the upper four bits of the first byte
abbrev pub version : List ℕ → ℕ
version p = slice_index p 0 / 16

-- the length of the header in words of four bytes (IHL): the lower four bits of the first byte
abbrev pub header_words : List ℕ → ℕ
header_words p = slice_index p 0 % 16

-- the length of the header in bytes
abbrev pub header_length : List ℕ → ℕ
header_length p = 4 * header_words p

-- the type of service
abbrev pub tos_of : List ℕ → ℕ
tos_of p = slice_index p 1

-- the total length in bytes, of header and payload
abbrev pub total_length : List ℕ → ℕ
total_length p = word_at p 2

-- the flag 'don't fragment', bit 1 of the flags
abbrev pub has_df : List ℕ → Bool
has_df p = slice_index p 6 / 64 % 2 == 1

-- the flag 'more fragments', bit 2 of the flags
abbrev pub has_more : List ℕ → Bool
has_more p = slice_index p 6 / 32 % 2 == 1

-- the fragment offset, the lower 13 bits of the word behind the identification
abbrev pub fragment_offset : List ℕ → ℕ
fragment_offset p = word_at p 6 % 8192

-- the time to live
abbrev pub ttl_of : List ℕ → ℕ
ttl_of p = slice_index p 8

-- the number of the protocol of the payload
abbrev pub protocol_of : List ℕ → ℕ
protocol_of p = slice_index p 9

abbrev pub source_of : List ℕ → Ip4
source_of p = address_at p 12

abbrev pub destination_of : List ℕ → Ip4
destination_of p = address_at p 16

-- the header with its options
abbrev pub header_of : List ℕ → List ℕ
header_of p = take (header_length p) p

-- the bytes are a whole packet: a header of at least 20 bytes, and as many bytes as the total length says
pub record IsWhole (p : List ℕ) : Type 0 where
  pub header : 20 ≤ header_length p
  pub within : header_length p ≤ total_length p
  pub total : length p ≡ total_length p
  pub most : length p ≤ 65535

-- the packet up to its total length
unfoldable pub whole : List ℕ → List ℕ
whole p = take (total_length p) p

-- what follows the header up to the total length
abbrev pub payload_of : List ℕ → List ℕ
payload_of p = drop (header_length p) (take (total_length p) p)

-- the total length has room for the header, and that many bytes are there
abbrev pub is_total_wrong : List ℕ → Bool
is_total_wrong p = nat_lt (total_length p) (header_length p) || nat_lt (length p) (total_length p)

-- the words of the header don't sum to FFFF
abbrev pub is_header_sum_wrong : List ℕ → Bool
is_header_sum_wrong p = not (ones_sum (header_of p) == 65535)

-- the packet is a part of a larger one
abbrev pub is_fragment : List ℕ → Bool
is_fragment p = has_more p || not (fragment_offset p == 0)

-- the first fault of the header
unfoldable pub ip_fault : List ℕ → Option IpFault
ip_fault p =
    if nat_lt (length p) 20 then Some Short
    else if not (version p == 4) then Some Version
    else if nat_lt (header_words p) 5 then Some HeaderLength
    else if is_total_wrong p then Some TotalLength
    else if is_header_sum_wrong p then Some HeaderSum
    else if is_fragment p then Some Fragment
    else None

-- a value, or the fault that forbids it
abbrev pub unless_fault : {A F : Type 0} → Option F → A → Result A F
unless_fault None value = Ok value
unless_fault (Some fault) value = Err fault

-- reading a packet's header: the packet up to its total length, or the first fault
unfoldable pub read_ip : List ℕ → Result (List ℕ) IpFault
read_ip p = unless_fault (ip_fault p) (whole p)

-- the byte of the flag 'don't fragment'
abbrev pub df_byte : Bool → ℕ
df_byte true = 64
df_byte false = 0

-- a header of five words with this checksum: version 4 and IHL 5 make the first byte
abbrev pub header_with : Ip4Header → ℕ → List ℕ
header_with h sum =
    69 ∷ h.tos ∷ word_bytes h.total ++ word_bytes h.id ++ df_byte h.df ∷ 0 ∷ h.ttl ∷ h.proto ∷ word_bytes sum
    ++ address_bytes h.src ++ address_bytes h.dst

-- a header with the right checksum, which is worked out with 0 in its place
unfoldable pub header_bytes : Ip4Header → List ℕ
header_bytes h = header_with h (checksum (header_with h 0))
