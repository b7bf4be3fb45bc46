-- Packets that are wrapped, lowered and unwrapped, whose bytes and checksums were worked out apart from this project.
use Rattle.std.proofs.Common.{◌≡◌, ℕ, List, [], ◌∷◌, ◌++◌, Some, None, Ok, Err, refl}
use Rattle.wire_core.specs.declared.address.Ip4.{Ip4}
use Rattle.packet_spec.specs.declared.fault.IpFault.TheVariants.{Fragment, TotalLength}
use Rattle.packet_spec.specs.Sums.{ones_add, ones_sum, checksum}
use Rattle.packet_spec.specs.Headers.{header_bytes, ip_fault, read_ip, whole}
use Rattle.packet_spec.specs.Segments.{pseudo_header}
use Rattle.packet_spec.specs.Options.{option_at, mss_from, mss_at}
use Rattle.packet_spec.specs.Edits.{layout_of, put_destination, put_ttl, clamp, put_header_sum, put_segment_sum}
use Rattle.packet_spec.specs.Edits.{translate_destination, restored}
use Rattle.ipip.specs.declared.wrapping.WrapFault.TheVariants.{TooLong, TtlOut}
use Rattle.ipip.specs.declared.unwrapping.UnwrapFault.TheVariants.{Ip, NotIpip}
use Rattle.ipip.specs.Wrapping.{Unwrapped, lowered, wrapped, wrap_fault, unwrapped}

abbrev mux : Ip4
mux = record { 0 = 168361985 }

abbrev machine : Ip4
machine = record { 0 = 167837700 }

abbrev from_mux : List ℕ → Unwrapped
from_mux p = record { outer_src = mux; outer_dst = machine; bytes = p }

-- a datagram from 198.51.100.7 to 192.0.2.10 with a type of service of 184 and a header of six words; and one hop
-- further
unfoldable urgent : List ℕ
urgent =
    70 ∷ 184 ∷ 0 ∷ 34 ∷ 0 ∷ 2 ∷ 0 ∷ 0 ∷ 56 ∷ 17 ∷ 146 ∷ 203 ∷ 198 ∷ 51 ∷ 100 ∷ 7 ∷ 192 ∷ 0 ∷ 2 ∷ 10 ∷ 1 ∷ 1 ∷ 1 ∷ 0 ∷
    0 ∷ 53 ∷ 4 ∷ 0 ∷ 0 ∷ 10 ∷ 159 ∷ 244 ∷ 111 ∷ 107 ∷ []

unfoldable urgent_lowered : List ℕ
urgent_lowered =
    70 ∷ 184 ∷ 0 ∷ 34 ∷ 0 ∷ 2 ∷ 0 ∷ 0 ∷ 55 ∷ 17 ∷ 147 ∷ 203 ∷ 198 ∷ 51 ∷ 100 ∷ 7 ∷ 192 ∷ 0 ∷ 2 ∷ 10 ∷ 1 ∷ 1 ∷ 1 ∷ 0 ∷
    0 ∷ 53 ∷ 4 ∷ 0 ∷ 0 ∷ 10 ∷ 159 ∷ 244 ∷ 111 ∷ 107 ∷ []

-- wrapped from 10.9.0.1 to 10.1.0.4, one hop further and at once
unfoldable urgent_wrapped : List ℕ
urgent_wrapped =
    69 ∷ 184 ∷ 0 ∷ 54 ∷ 0 ∷ 0 ∷ 64 ∷ 0 ∷ 64 ∷ 4 ∷ 37 ∷ 254 ∷ 10 ∷ 9 ∷ 0 ∷ 1 ∷ 10 ∷ 1 ∷ 0 ∷ 4 ∷ 70 ∷ 184 ∷ 0 ∷ 34 ∷ 0 ∷
    2 ∷ 0 ∷ 0 ∷ 55 ∷ 17 ∷ 147 ∷ 203 ∷ 198 ∷ 51 ∷ 100 ∷ 7 ∷ 192 ∷ 0 ∷ 2 ∷ 10 ∷ 1 ∷ 1 ∷ 1 ∷ 0 ∷ 0 ∷ 53 ∷ 4 ∷ 0 ∷ 0 ∷
    10 ∷ 159 ∷ 244 ∷ 111 ∷ 107 ∷ []

unfoldable urgent_wrapped_at_once : List ℕ
urgent_wrapped_at_once =
    69 ∷ 184 ∷ 0 ∷ 54 ∷ 0 ∷ 0 ∷ 64 ∷ 0 ∷ 64 ∷ 4 ∷ 37 ∷ 254 ∷ 10 ∷ 9 ∷ 0 ∷ 1 ∷ 10 ∷ 1 ∷ 0 ∷ 4 ∷ 70 ∷ 184 ∷ 0 ∷ 34 ∷ 0 ∷
    2 ∷ 0 ∷ 0 ∷ 56 ∷ 17 ∷ 146 ∷ 203 ∷ 198 ∷ 51 ∷ 100 ∷ 7 ∷ 192 ∷ 0 ∷ 2 ∷ 10 ∷ 1 ∷ 1 ∷ 1 ∷ 0 ∷ 0 ∷ 53 ∷ 4 ∷ 0 ∷ 0 ∷
    10 ∷ 159 ∷ 244 ∷ 111 ∷ 107 ∷ []

-- behind an outer header of six words, with another protocol than 4, and as a first fragment
unfoldable wrapped_with_options : List ℕ
wrapped_with_options =
    70 ∷ 184 ∷ 0 ∷ 58 ∷ 0 ∷ 0 ∷ 64 ∷ 0 ∷ 64 ∷ 4 ∷ 144 ∷ 245 ∷ 10 ∷ 9 ∷ 0 ∷ 1 ∷ 10 ∷ 1 ∷ 0 ∷ 4 ∷ 148 ∷ 4 ∷ 0 ∷ 0 ∷ 70 ∷
    184 ∷ 0 ∷ 34 ∷ 0 ∷ 2 ∷ 0 ∷ 0 ∷ 55 ∷ 17 ∷ 147 ∷ 203 ∷ 198 ∷ 51 ∷ 100 ∷ 7 ∷ 192 ∷ 0 ∷ 2 ∷ 10 ∷ 1 ∷ 1 ∷ 1 ∷ 0 ∷ 0 ∷
    53 ∷ 4 ∷ 0 ∷ 0 ∷ 10 ∷ 159 ∷ 244 ∷ 111 ∷ 107 ∷ []

unfoldable wrapped_in_another : List ℕ
wrapped_in_another =
    69 ∷ 184 ∷ 0 ∷ 54 ∷ 0 ∷ 0 ∷ 64 ∷ 0 ∷ 64 ∷ 41 ∷ 37 ∷ 217 ∷ 10 ∷ 9 ∷ 0 ∷ 1 ∷ 10 ∷ 1 ∷ 0 ∷ 4 ∷ 70 ∷ 184 ∷ 0 ∷ 34 ∷
    0 ∷ 2 ∷ 0 ∷ 0 ∷ 55 ∷ 17 ∷ 147 ∷ 203 ∷ 198 ∷ 51 ∷ 100 ∷ 7 ∷ 192 ∷ 0 ∷ 2 ∷ 10 ∷ 1 ∷ 1 ∷ 1 ∷ 0 ∷ 0 ∷ 53 ∷ 4 ∷ 0 ∷ 0 ∷
    10 ∷ 159 ∷ 244 ∷ 111 ∷ 107 ∷ []

unfoldable wrapped_fragment : List ℕ
wrapped_fragment =
    69 ∷ 0 ∷ 0 ∷ 54 ∷ 0 ∷ 1 ∷ 32 ∷ 0 ∷ 64 ∷ 4 ∷ 70 ∷ 181 ∷ 10 ∷ 9 ∷ 0 ∷ 1 ∷ 10 ∷ 1 ∷ 0 ∷ 4 ∷ 70 ∷ 184 ∷ 0 ∷ 34 ∷ 0 ∷
    2 ∷ 0 ∷ 0 ∷ 55 ∷ 17 ∷ 147 ∷ 203 ∷ 198 ∷ 51 ∷ 100 ∷ 7 ∷ 192 ∷ 0 ∷ 2 ∷ 10 ∷ 1 ∷ 1 ∷ 1 ∷ 0 ∷ 0 ∷ 53 ∷ 4 ∷ 0 ∷ 0 ∷
    10 ∷ 159 ∷ 244 ∷ 111 ∷ 107 ∷ []

-- times to live of 1 and 0
unfoldable last_hop : List ℕ
last_hop =
    70 ∷ 184 ∷ 0 ∷ 34 ∷ 0 ∷ 2 ∷ 0 ∷ 0 ∷ 1 ∷ 17 ∷ 201 ∷ 203 ∷ 198 ∷ 51 ∷ 100 ∷ 7 ∷ 192 ∷ 0 ∷ 2 ∷ 10 ∷ 1 ∷ 1 ∷ 1 ∷ 0 ∷
    0 ∷ 53 ∷ 4 ∷ 0 ∷ 0 ∷ 10 ∷ 159 ∷ 244 ∷ 111 ∷ 107 ∷ []

unfoldable no_hop : List ℕ
no_hop =
    70 ∷ 184 ∷ 0 ∷ 34 ∷ 0 ∷ 2 ∷ 0 ∷ 0 ∷ 0 ∷ 17 ∷ 202 ∷ 203 ∷ 198 ∷ 51 ∷ 100 ∷ 7 ∷ 192 ∷ 0 ∷ 2 ∷ 10 ∷ 1 ∷ 1 ∷ 1 ∷ 0 ∷
    0 ∷ 53 ∷ 4 ∷ 0 ∷ 0 ∷ 10 ∷ 159 ∷ 244 ∷ 111 ∷ 107 ∷ []

-- the headers of packets of 65,000 bytes, and of 65,001 with a time to live of 1
unfoldable longest : List ℕ
longest =
    69 ∷ 0 ∷ 253 ∷ 232 ∷ 0 ∷ 1 ∷ 0 ∷ 0 ∷ 64 ∷ 17 ∷ 144 ∷ 190 ∷ 198 ∷ 51 ∷ 100 ∷ 7 ∷ 192 ∷ 0 ∷ 2 ∷ 10 ∷ []

unfoldable too_long : List ℕ
too_long =
    69 ∷ 0 ∷ 253 ∷ 233 ∷ 0 ∷ 1 ∷ 0 ∷ 0 ∷ 1 ∷ 17 ∷ 207 ∷ 189 ∷ 198 ∷ 51 ∷ 100 ∷ 7 ∷ 192 ∷ 0 ∷ 2 ∷ 10 ∷ []

-- it, handed to 10.1.0.4 port 5000
unfoldable urgent_handed : List ℕ
urgent_handed =
    70 ∷ 184 ∷ 0 ∷ 34 ∷ 0 ∷ 2 ∷ 0 ∷ 0 ∷ 55 ∷ 17 ∷ 75 ∷ 209 ∷ 198 ∷ 51 ∷ 100 ∷ 7 ∷ 10 ∷ 1 ∷ 0 ∷ 4 ∷ 1 ∷ 1 ∷ 1 ∷ 0 ∷ 0 ∷
    53 ∷ 19 ∷ 136 ∷ 0 ∷ 10 ∷ 72 ∷ 114 ∷ 111 ∷ 107 ∷ []

-- what has to be opened to compute what is written, and what is read
writing : Ip4
unfolding wrapped lowered header_bytes layout_of put_ttl put_header_sum checksum ones_sum ones_add
writing = mux

reading : Ip4
unfolding read_ip ip_fault whole ones_sum ones_add
reading = mux

handing : Ip4
unfolding restored translate_destination put_destination clamp put_segment_sum pseudo_header mss_at mss_from option_at
handing = mux

is_lowered : lowered 1 urgent ≡ urgent_lowered
unfolding writing urgent urgent_lowered
is_lowered = refl

is_wrapped : wrapped 1 mux machine urgent ≡ urgent_wrapped
unfolding writing urgent urgent_wrapped
is_wrapped = refl

is_wrapped_at_once : wrapped 0 mux machine urgent ≡ urgent_wrapped_at_once
unfolding writing urgent urgent_wrapped_at_once
is_wrapped_at_once = refl

is_unwrapped : unwrapped urgent_wrapped ≡ Ok (from_mux urgent_lowered)
unfolding reading urgent_wrapped urgent_lowered
is_unwrapped = refl

is_unwrapped_behind_options : unwrapped wrapped_with_options ≡ Ok (from_mux urgent_lowered)
unfolding reading wrapped_with_options urgent_lowered
is_unwrapped_behind_options = refl

what_follows_is_cut : unwrapped (urgent_wrapped ++ 255 ∷ []) ≡ Ok (from_mux urgent_lowered)
unfolding reading urgent_wrapped urgent_lowered
what_follows_is_cut = refl

another_protocol : unwrapped wrapped_in_another ≡ Err NotIpip
unfolding reading wrapped_in_another
another_protocol = refl

a_fragment : unwrapped wrapped_fragment ≡ Err (Ip Fragment)
unfolding reading wrapped_fragment
a_fragment = refl

a_packet_alone : unwrapped urgent ≡ Err NotIpip
unfolding reading urgent
a_packet_alone = refl

a_header_alone : unwrapped longest ≡ Err (Ip TotalLength)
unfolding reading longest
a_header_alone = refl

last_hop_is_not_forwarded : wrap_fault 1 last_hop ≡ Some TtlOut
unfolding wrap_fault last_hop
last_hop_is_not_forwarded = refl

last_hop_is_sent : wrap_fault 0 last_hop ≡ None
unfolding wrap_fault last_hop
last_hop_is_sent = refl

no_hop_is_not_sent : wrap_fault 0 no_hop ≡ Some TtlOut
unfolding wrap_fault no_hop
no_hop_is_not_sent = refl

longest_is_forwarded : wrap_fault 1 longest ≡ None
unfolding wrap_fault longest
longest_is_forwarded = refl

too_long_comes_first : wrap_fault 1 too_long ≡ Some TooLong
unfolding wrap_fault too_long
too_long_comes_first = refl

is_handed : restored machine 5000 0 urgent_lowered ≡ urgent_handed
unfolding handing writing reading urgent_lowered urgent_handed
is_handed = refl

would_be_handed : restored machine 5000 1 urgent ≡ urgent_handed
unfolding handing writing reading urgent urgent_handed
would_be_handed = refl
