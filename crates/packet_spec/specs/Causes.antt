-- Why a packet is dropped: the cause of each fault; and the name by which a cause is printed.
use Rattle.std.specs.Prelude.{ℕ, List, codes}
use Rattle.wire_core.specs.declared.cause.DropCause.{DropCause}
use Rattle.wire_core.specs.declared.cause.DropCause.TheVariants as drop
use Rattle.packet_spec.specs.declared.fault.IpFault.{IpFault}
use Rattle.packet_spec.specs.declared.fault.IpFault.TheVariants as ip
use Rattle.packet_spec.specs.declared.fault.SegmentFault.{SegmentFault}
use Rattle.packet_spec.specs.declared.fault.SegmentFault.TheVariants as segment
use Rattle.packet_spec.specs.declared.fault.PacketFault.{PacketFault}
use Rattle.packet_spec.specs.declared.fault.PacketFault.TheVariants as packet

-- the cause of a header's first fault
abbrev pub ip_cause : IpFault → DropCause
ip_cause ip.Short = drop.IpShort
ip_cause ip.Version = drop.IpVersion
ip_cause ip.HeaderLength = drop.IpHeaderLength
ip_cause ip.TotalLength = drop.IpTotalLength
ip_cause ip.HeaderSum = drop.IpHeaderSum
ip_cause ip.Fragment = drop.Fragment

-- the cause of a segment's first fault
abbrev pub segment_cause : SegmentFault → DropCause
segment_cause segment.Short = drop.SegShort
segment_cause segment.DataOffset = drop.DataOffset
segment_cause segment.Length = drop.SegLength
segment_cause segment.Sum = drop.BadSum

-- the cause of a packet's first fault: its header's, its protocol's or its segment's
unfoldable pub packet_cause : PacketFault → DropCause
packet_cause (packet.Ip fault) = ip_cause fault
packet_cause packet.NotTransport = drop.NotTransport
packet_cause (packet.Segment fault) = segment_cause fault

-- the name of a cause, without the number that some carry
unfoldable pub cause_name : DropCause → List ℕ
cause_name drop.BadFrame = codes "BadFrame"
cause_name drop.BadMessage = codes "BadMessage"
cause_name drop.NotFromMux = codes "NotFromMux"
cause_name drop.NotNode = codes "NotNode"
cause_name drop.WrongRole = codes "WrongRole"
cause_name drop.IpShort = codes "IpShort"
cause_name drop.IpVersion = codes "IpVersion"
cause_name drop.IpHeaderLength = codes "IpHeaderLength"
cause_name drop.IpTotalLength = codes "IpTotalLength"
cause_name drop.IpHeaderSum = codes "IpHeaderSum"
cause_name drop.Fragment = codes "Fragment"
cause_name drop.NotTransport = codes "NotTransport"
cause_name drop.SegShort = codes "SegShort"
cause_name drop.DataOffset = codes "DataOffset"
cause_name drop.SegLength = codes "SegLength"
cause_name drop.BadSum = codes "BadSum"
cause_name drop.Late = codes "Late"
cause_name drop.NotPrimary = codes "NotPrimary"
cause_name drop.NotMine = codes "NotMine"
cause_name drop.Waiting = codes "Waiting"
cause_name drop.QueueFull = codes "QueueFull"
cause_name drop.Unknown = codes "Unknown"
cause_name (drop.WrongBoot number) = codes "WrongBoot"
cause_name (drop.OldEpoch number) = codes "OldEpoch"
cause_name (drop.OldNumber number) = codes "OldNumber"
cause_name drop.NoLease = codes "NoLease"
cause_name drop.NotVip = codes "NotVip"
cause_name drop.NoEndpoint = codes "NoEndpoint"
cause_name drop.TooLong = codes "TooLong"
cause_name drop.TtlOut = codes "TtlOut"
cause_name drop.BadSource = codes "BadSource"
cause_name drop.NoSnat = codes "NoSnat"
cause_name drop.TableFull = codes "TableFull"
cause_name (drop.OldGrant number) = codes "OldGrant"
cause_name drop.Denied = codes "Denied"
cause_name drop.NoConnection = codes "NoConnection"
cause_name (drop.StaleLease number) = codes "StaleLease"
cause_name drop.NotIpip = codes "NotIpip"
cause_name drop.BadSender = codes "BadSender"
cause_name drop.WrongMachine = codes "WrongMachine"
cause_name drop.KeyInUse = codes "KeyInUse"
