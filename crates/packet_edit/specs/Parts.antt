-- The parts that a packet was read into.
use Rattle.std.specs.Prelude.{◌≡◌, ℕ, List}
use Rattle.wire_core.specs.declared.flow.Proto.{Proto}
use Rattle.packet_spec.specs.Segments.{Segment}
use Rattle.packet_spec.specs.Packets.{carried, segment_of}

-- the protocol and the segment are those of the packet
pub record HasParts (p : List ℕ) (proto : Proto) (segment : Segment) : Type 0 where
  pub transport : proto ≡ carried p
  pub segment_transport : segment.proto ≡ carried p
  pub segment_is : segment.bytes ≡ segment_of p
