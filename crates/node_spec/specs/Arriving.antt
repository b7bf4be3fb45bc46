-- What comes in bytes, and what is heard of it.
use Rattle.wire_core.specs.Numbers.{AreBytes}
use Rattle.control_msg.specs.Messages.{IsMessage}
use Rattle.node_spec.specs.Datagrams.{Heard, Refused, Told, Brought}
use Rattle.node_spec.specs.Turns.{Input, Arrived, Ticked}

-- what arrives is bytes
abbrev pub IsInBytes : Input → Type 0
IsInBytes (Arrived from bytes) = AreBytes bytes
IsInBytes (Ticked now) = Unit {0}

-- a message that is heard has allowed fields
abbrev pub IsAllowed : Heard → Type 0
IsAllowed (Refused cause) = Unit {0}
IsAllowed (Told sender message) = IsMessage message
IsAllowed (Brought sender packet) = Unit {0}
