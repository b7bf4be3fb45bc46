-- A packet without bytes past its total length.
use Rattle.std.proofs.Common.{◌≡◌, ◌∙◌, ℕ, ◌≤◌, List, length, None, sym, ap, arith}
use Rattle.packet_spec.specs.Headers.{IsWhole, total_length, whole}
use Rattle.wire_core.specs.declared.address.Ip4.{Ip4}
use Rattle.packet_spec.specs.Edits.{translate_source, translated}
use Rattle.packet_spec.specs.Packets.{packet_fault}
use Rattle.packet_spec.proofs.WholeLaws.{whole_stays}
use Rattle.packet_spec.proofs.PacketLaws.{HasHeader, has_header, header_is_fine, length-whole}

-- what is cut to itself is whole
pub whole_again : (p : List ℕ) → packet_fault p ≡ None → whole p ≡ p → length p ≤ 65535 → IsWhole p
whole_again p fine same most =
    let h = has_header p (header_is_fine p fine) in
    let len : length p ≡ total_length p = sym (ap length same) ∙ length-whole p h in
    record { header = h.header; within = h.within; total = len; most = most }

-- a translation of what is whole
pub translated_whole : (ip : Ip4) (port : ℕ) (p : List ℕ) → IsWhole p → translated ip port p ≡ translate_source ip port p
unfolding translated
translated_whole ip port p w = ap (translate_source ip port) (whole_stays p w)
