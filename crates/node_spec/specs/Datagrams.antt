-- The common tests of a datagram: whose it is, and what it holds. Each role begins with them.
use Rattle.std.specs.Prelude.{ℕ, Bool, true, false, not, ◌&&◌, if◌then◌else◌, List, Option, Some, None, Result, Ok, Err}
use Rattle.wire_core.specs.declared.address.Socket.{Socket}
use Rattle.wire_core.specs.declared.cause.DropCause.{DropCause}
use Rattle.wire_core.specs.declared.cause.DropCause.TheVariants.{BadFrame, BadMessage, NotFromMux, NotNode}
use Rattle.wire_core.specs.declared.node.NodeId.{NodeId}
use Rattle.wire_core.specs.declared.node.NodeId.TheVariants.{Replica, Mux, Agent}
use Rattle.control_msg.specs.declared.message.Message.{Message}
use Rattle.control_msg.specs.declared.message.Message.TheVariants.{Redirect}
use Rattle.control_msg.specs.declared.reading.MessageFault.{MessageFault}
use Rattle.control_msg.specs.Reading.{message_at}
use Rattle.control_msg.specs.Frames.{Framed, Control, Packet, frame_at}
use Rattle.vip_config.specs.declared.parts.ConfigParts.{ConfigParts}
use Rattle.vip_config.specs.declared.who.Who.{Who}
use Rattle.vip_config.specs.declared.who.Who.TheVariants as who
use Rattle.vip_config.specs.Queries.{who_of}

-- What the tests leave: a cause to drop it, a message of a node, or a packet of anyone.
pub data Heard : Type 0 where
  Refused : (cause : DropCause) → Heard
  Told : (sender : NodeId) → (message : Message) → Heard
  Brought : (sender : Who) → (packet : List ℕ) → Heard

-- the message is a Redirect
abbrev pub is_redirect : Message → Bool
is_redirect (Redirect side n src sport dst dport opener server) = true
is_redirect _ = false

-- the sender is a mux
abbrev pub is_mux : Who → Bool
is_mux (who.Replica i) = false
is_mux (who.Mux i) = true
is_mux (who.Agent i) = false
is_mux (who.Machine a) = false
is_mux who.Outside = false

-- Fourth: a message is of a node.
abbrev pub of_node : Who → Message → Heard
of_node (who.Replica i) m = Told (Replica i) m
of_node (who.Mux i) m = Told (Mux i) m
of_node (who.Agent i) m = Told (Agent i) m
of_node (who.Machine a) m = Refused NotNode
of_node who.Outside m = Refused NotNode

-- Third: a Redirect is of a mux.
unfoldable pub admitted : Who → Message → Heard
admitted sender m = if is_redirect m && not (is_mux sender) then Refused NotFromMux else of_node sender m

-- Second: what a control frame holds is a message.
abbrev pub decoded : Who → Result Message MessageFault → Heard
decoded sender (Err fault) = Refused BadMessage
decoded sender (Ok m) = admitted sender m

-- First: it is a frame.
abbrev pub framed_by : Who → Option Framed → Heard
framed_by sender None = Refused BadFrame
framed_by sender (Some (Control bytes)) = decoded sender (message_at bytes)
framed_by sender (Some (Packet packet)) = Brought sender packet

-- The tests in their order: BadFrame, BadMessage, NotFromMux, NotNode.
unfoldable pub heard : ConfigParts → Socket → List ℕ → Heard
heard c from bytes = framed_by (who_of c from) (frame_at bytes)

-- What a role makes of a datagram: of one that is refused, of a message, and of a packet. R is the type of its rows.
abbrev pub by_heard : {R : Type 0} → (DropCause → R) → (NodeId → Message → R) → (Who → List ℕ → R) → Heard → R
by_heard refuses hears takes (Refused cause) = refuses cause
by_heard refuses hears takes (Told sender m) = hears sender m
by_heard refuses hears takes (Brought sender packet) = takes sender packet
