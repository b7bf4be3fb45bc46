-- An IPv4 packet within an IPv4 packet (RFC 2003).
use Rattle.std.specs.Prelude.{◌≡◌, ℕ, zero, suc, ◌+◌, ◌-◌, ◌^◌, ◌<◌, true, List, ◌++◌, nat_lt, nat_le, ◌==◌, Option}
use Rattle.std.specs.Prelude.{Some, None, Result, Ok, Err, if◌then◌else◌}
use Rattle.wire_core.specs.declared.address.Ip4.{Ip4}
use Rattle.packet_spec.specs.declared.fault.IpFault.{IpFault}
use Rattle.packet_spec.specs.declared.header.Ip4Header.{Ip4Header}
use Rattle.wire_core.specs.Numbers.{AreBytes}
use Rattle.packet_spec.specs.Headers.{IsWhole, tos_of, ttl_of, total_length, protocol_of, source_of, destination_of}
use Rattle.packet_spec.specs.Headers.{payload_of, header_bytes, read_ip}
use Rattle.packet_spec.specs.Edits.{layout_of, put_ttl, put_header_sum}
use Rattle.ipip.specs.declared.wrapping.WrapFault.{WrapFault}
use Rattle.ipip.specs.declared.wrapping.WrapFault.TheVariants.{TooLong, TtlOut}
use Rattle.ipip.specs.declared.unwrapping.UnwrapFault.{UnwrapFault}
use Rattle.ipip.specs.declared.unwrapping.UnwrapFault.TheVariants.{Ip, NotIpip}
use Rattle.ipip.specs.declared.unwrapping.Inner.{Inner}

-- the outer header (section 3.1): the inner type of service, protocol 4; identification 0, 'don't fragment' and a time
-- to live of 64 are this project's choice
abbrev pub outer_header : Ip4 → Ip4 → List ℕ → Ip4Header
outer_header src dst p = record {
  tos = tos_of p;
  total = total_length p + 20;
  id = 0;
  df = true;
  ttl = 64;
  proto = 4;
  src = src;
  dst = dst;
}

-- the time to live lowered by so many hops, with the header's checksum right; by none the packet stays as it is
unfoldable pub lowered : ℕ → List ℕ → List ℕ
lowered zero p = p
lowered (suc d) p = put_header_sum (layout_of p) (put_ttl (ttl_of p - suc d) p)

-- the packet, its time to live lowered by d, behind an outer header
unfoldable pub wrapped : ℕ → Ip4 → Ip4 → List ℕ → List ℕ
wrapped d src dst p = header_bytes (outer_header src dst p) ++ lowered d p

-- what forbids it: more than 65,000 bytes, or a time to live that isn't above d
unfoldable pub wrap_fault : ℕ → List ℕ → Option WrapFault
wrap_fault d p =
    if nat_lt 65000 (total_length p) then Some TooLong
    else if nat_le (ttl_of p) d then Some TtlOut
    else None

-- what a packet that carries another one holds
pub record Unwrapped : Type 0 where
  pub outer_src : Ip4
  pub outer_dst : Ip4
  pub bytes : List ℕ

abbrev pub carried_by : List ℕ → Unwrapped
carried_by p = record { outer_src = source_of p; outer_dst = destination_of p; bytes = payload_of p }

abbrev pub of_outer : Result (List ℕ) IpFault → Result Unwrapped UnwrapFault
of_outer (Err fault) = Err (Ip fault)
of_outer (Ok p) = if protocol_of p == 4 then Ok (carried_by p) else Err NotIpip

-- what these bytes carry, or the first fault of the outer header, or another protocol than 4
abbrev pub unwrapped : List ℕ → Result Unwrapped UnwrapFault
unwrapped bytes = of_outer (read_ip bytes)

-- what the code's answer means
abbrev pub inner_of : Inner → Unwrapped
inner_of i = record { outer_src = i.outer_src; outer_dst = i.outer_dst; bytes = i.bytes.now }

-- What is wrapped is unwrapped again: both outer addresses, and the packet with its time to live lowered.
abbrev pub UnwrapsAgain : Type 0
UnwrapsAgain =
    (d : ℕ) (src dst : Ip4) (p : List ℕ) → src.0 < 2 ^ 32 → dst.0 < 2 ^ 32 → AreBytes p → IsWhole p
    → wrap_fault d p ≡ None
    → unwrapped (wrapped d src dst p) ≡ Ok (record { outer_src = src; outer_dst = dst; bytes = lowered d p })
