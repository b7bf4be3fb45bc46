-- Why a packet is dropped that isn't wrapped, or that carries none.
use Rattle.wire_core.specs.declared.cause.DropCause.{DropCause}
use Rattle.wire_core.specs.declared.cause.DropCause.TheVariants as drop
use Rattle.packet_spec.specs.Causes.{ip_cause}
use Rattle.ipip.specs.declared.wrapping.WrapFault.{WrapFault}
use Rattle.ipip.specs.declared.wrapping.WrapFault.TheVariants.{TooLong, TtlOut}
use Rattle.ipip.specs.declared.unwrapping.UnwrapFault.{UnwrapFault}
use Rattle.ipip.specs.declared.unwrapping.UnwrapFault.TheVariants as unwrap

-- the cause of what forbids to wrap a packet
abbrev pub wrap_cause : WrapFault → DropCause
wrap_cause TooLong = drop.TooLong
wrap_cause TtlOut = drop.TtlOut

-- the cause of a wrapped packet's first fault
abbrev pub unwrap_cause : UnwrapFault → DropCause
unwrap_cause (unwrap.Ip fault) = ip_cause fault
unwrap_cause unwrap.NotIpip = drop.NotIpip
