-- A turn in bytes, and the words that tie code to it: code adds to its step so far.
use Rattle.std.specs.Prelude.{ℕ, Bool, true, false, List, [], ◌∷◌, ◌++◌, Option, Some, None, option_map}
use Rattle.std.specs.List.{flat_map}
use Rattle.wire_core.specs.declared.address.Socket.{Socket}
use Rattle.wire_core.specs.declared.entry.Entry.{Entry}
use Rattle.wire_core.specs.Entries.{entry_bytes}
use Rattle.wire_core.specs.Steps.{first_of, no_step}
use Rattle.control_msg.specs.Messages.{message_bytes}
use Rattle.control_msg.specs.Frames.{frame_bytes, Control, Packet}
use Rattle.vip_config.specs.declared.parts.ConfigParts.{ConfigParts}
use Rattle.vip_config.specs.Queries.{socket_of}
use Rattle.vip_config.specs.Serving.{attach_of}
use Rattle.wire_core.specs.declared.input.Input.{Input as CodeInput}
use Rattle.wire_core.specs.declared.input.Input.TheVariants as code
use Rattle.wire_core.specs.declared.outgoing.Outgoing.{Outgoing}
use Rattle.wire_core.specs.declared.step.Step.{Step}
use Rattle.node_spec.specs.Sends.{Place, ToNode, ToMachine, ToRouter, Said, Says, Carries, Send}
use Rattle.node_spec.specs.Turns.{Input, Arrived, Ticked, Turn}

-- ---- datagrams and entries in bytes

-- The bytes of a datagram: a frame byte, and the message or the packet.
unfoldable pub datagram : Said → List ℕ
datagram (Says m) = frame_bytes (Control (message_bytes m))
datagram (Carries packet) = frame_bytes (Packet packet)

-- the socket of a place, where it is configured
abbrev pub socket_at : ConfigParts → Place → Option Socket
socket_at c (ToNode node) = socket_of c node
socket_at c (ToMachine machine) = attach_of c machine
socket_at c ToRouter = Some c.router

-- a datagram to a socket, where there is one
abbrev pub sent_to : List ℕ → Option Socket → List Outgoing
sent_to bytes None = []
sent_to bytes (Some socket) = record { to = socket; bytes = bytes } ∷ []

-- A send as a datagram. To a place that isn't configured nothing goes.
unfoldable pub outgoing : ConfigParts → Send → List Outgoing
outgoing c s = sent_to (datagram s.said) (socket_at c s.to)

-- the bytes of an entry
unfoldable pub body_of : Entry → List ℕ
body_of e = entry_bytes e

-- ---- the step of the code

-- with so many datagrams more
abbrev pub with_sends : List Outgoing → Step → Step
with_sends xs s = record s { sends = s.sends ++ xs }

-- what an input of the code means
abbrev pub input_of : CodeInput → Input
input_of (code.Datagram from bytes) = Arrived from bytes.now
input_of (code.Tick now) = Ticked now

-- ---- a turn as a step

-- The step so far, and then a turn.
unfoldable pub onto : {S : Type 0} → ConfigParts → Step → Turn S → Step
onto c s t = record {
  entry = first_of s.entry (option_map body_of t.entry);
  acts = s.acts ++ t.acts;
  notes = s.notes ++ t.notes;
  sends = s.sends ++ flat_map (outgoing c) t.sends;
}

-- the step of a whole turn
abbrev pub step_of : {S : Type 0} → ConfigParts → Turn S → Step
step_of c t = onto c no_step t

-- What a turn leaves: its lists, in what keeps them (K), and the step so far with the turn after it. Each handler of a
-- role has this one form of clause.
unfoldable pub turned : {S K : Type 0} → (S → K) → ConfigParts → Step → Turn S → K × Step
turned keep c s t = (keep t.state, onto c s t)

-- The same of a turn that may not come, and whether it came. Where it doesn't, nothing changes.
unfoldable pub tried : {S K : Type 0} → (S → K) → ConfigParts → Step → K → Option (Turn S) → K × (Step × Bool)
tried keep c s old None = (old, (s, false))
tried keep c s old (Some t) = (keep t.state, (onto c s t, true))
