-- A run's transcript: each event with the lines that are written of it.
use Rattle.std.specs.Prelude.{◌≡◌, ℕ, length, zero, suc, List, [], ◌∷◌, ◌++◌, Option, Some, None}
use Rattle.std.specs.List.{flat_map}
use Rattle.wire_core.specs.declared.act.Act.{Act}
use Rattle.wire_core.specs.declared.node.NodeId.{NodeId}
use Rattle.wire_core.specs.declared.outgoing.Outgoing.{Outgoing}
use Rattle.vip_config.specs.declared.parts.ConfigParts.{ConfigParts}
use Rattle.schedule_text.specs.declared.event.Event.{Event}
use Rattle.schedule_text.specs.declared.event.Event.TheVariants as event
use Rattle.schedule_text.specs.declared.line.Line.{Line}
use Rattle.schedule_text.specs.declared.line.Line.TheVariants as line
use Rattle.schedule_text.specs.Transcript.{printed_line}
use Rattle.node_spec.specs.Sends.{Send}
use Rattle.node_spec.specs.Steps.{outgoing}
use Rattle.world_spec.specs.World.{World, Sent, first_world, least_waiting, all_sent}
use Rattle.world_spec.specs.Steps.{Outcome, deliver, crash}
use Rattle.world_spec.specs.Events.{single, during}

-- these lines, and then an event's
abbrev pub behind : List Line → Outcome → Outcome
behind lines r = (r.0, lines ++ r.1)

-- a delivery with its lines, and then what follows from the world that it leaves
abbrev pub settle_by : ConfigParts → World → (World → Outcome) → Option ℕ → Outcome
settle_by cfg w more None = (w, [])
settle_by cfg w more (Some k) = behind (line.Delivery k ∷ (deliver cfg w k).1) (more (deliver cfg w k).0)

-- At most so many deliveries, each of the least datagram to a node that no delivery took.
unfoldable pub settle : ConfigParts → ℕ → World → Outcome
settle cfg zero w = (w, [])
settle cfg (suc n) w = settle_by cfg w (settle cfg n) (least_waiting w)

-- What an event of a schedule does, and the lines behind its own.
unfoldable pub applied : ConfigParts → World → Event → Outcome
applied cfg w (event.Single e) = single cfg w e
applied cfg w (event.Settle n) = settle cfg n w
applied cfg w (event.Crash x) = crash w x
applied cfg w (event.During x e keep) = during cfg w x e keep

-- the lines of some events, from a world on
unfoldable pub lines_from : ConfigParts → World → List Event → List Line
lines_from cfg w [] = []
lines_from cfg w (e ∷ es) = line.Event e ∷ (applied cfg w e).1 ++ lines_from cfg (applied cfg w e).0 es

-- the world after some events of a schedule
unfoldable pub end_from : ConfigParts → World → List Event → World
end_from cfg w [] = w
end_from cfg w (e ∷ es) = end_from cfg (applied cfg w e).0 es

-- The lines of a run.
abbrev pub transcript : ConfigParts → List Event → List Line
transcript cfg es = lines_from cfg (first_world cfg) es

-- A run's transcript in bytes.
unfoldable pub transcript_text : ConfigParts → List Event → List ℕ
transcript_text cfg es = flat_map (printed_line cfg) (transcript cfg es)

-- ---- the acts of lines

-- the act that a line says
abbrev pub act_in : Line → List Act
act_in (line.Act a) = a ∷ []
act_in _ = []

-- The acts that these lines say, in order.
unfoldable pub acts_in : List Line → List Act
acts_in ls = flat_map act_in ls

-- ---- datagrams in bytes

-- a datagram in bytes, to a socket
abbrev pub in_bytes : ConfigParts → Sent → List Outgoing
in_bytes cfg s = outgoing cfg (record { to = s.to; said = s.said })

-- All datagrams that were sent, in bytes.
unfoldable pub datagrams : ConfigParts → World → List Outgoing
datagrams cfg w = flat_map (in_bytes cfg) w.sent

-- A turn's datagrams in bytes are those that join what was sent: one for one, in this order.
abbrev pub PostsItsLines : Type 0
PostsItsLines = (cfg : ConfigParts) (x : NodeId) (sends : List Send)
    → (flat_map (in_bytes cfg) (all_sent cfg x sends) ≡ flat_map (outgoing cfg) sends)
    × (length (all_sent cfg x sends) ≡ length (flat_map (outgoing cfg) sends))
