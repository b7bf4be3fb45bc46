-- What a datagram holds: its first byte says whether a message or a packet follows.
use Rattle.std.specs.Prelude.{ℕ, List, [], ◌∷◌, Option, Some, None, ◌==◌, if◌then◌else◌}
use Rattle.control_msg.specs.declared.frame.Frame.{Frame}
use Rattle.control_msg.specs.declared.frame.Frame.TheVariants as code

-- a frame by the bytes behind its first one
pub data Framed : Type 0 where
  Control : (message : List ℕ) → Framed
  Packet : (packet : List ℕ) → Framed

abbrev pub frame_bytes : Framed → List ℕ
frame_bytes (Control message) = 1 ∷ message
frame_bytes (Packet packet) = 2 ∷ packet

abbrev pub frame_at : List ℕ → Option Framed
frame_at [] = None
frame_at (first ∷ rest) = if first == 1 then Some (Control rest) else if first == 2 then Some (Packet rest) else None

-- what a frame of the code means
abbrev pub framed : Frame → Framed
framed (code.Control message) = Control message.now
framed (code.Packet packet) = Packet packet.now
