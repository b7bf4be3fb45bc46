-- Why a command is in the log: what an agent sent before a replica queued it.
use Rattle.std.specs.Prelude.{◌≡◌, ℕ, List}
use Rattle.wire_core.specs.Commands.{LogCommand, Reserve, Granted, Release, Freed, Up}
use Rattle.wire_core.specs.Members.{Each}
use Rattle.wire_core.specs.declared.entry.Entry.{Entry}
use Rattle.wire_core.specs.declared.node.NodeId.{NodeId}
use Rattle.wire_core.specs.declared.node.NodeId.TheVariants.{Agent}
use Rattle.control_msg.specs.Messages.{message_bytes}
use Rattle.control_msg.specs.declared.message.Message.{Message}
use Rattle.control_msg.specs.declared.message.Message.TheVariants.{Ask, AgentUp, Return}
use Rattle.paxos_spec.specs.Votes.{Value}
use Rattle.world_spec.specs.Nodes.{Lists, OfManager, OfMux, OfAgent}
use Rattle.world_spec.specs.Shapes.{Said}
use Rattle.world_spec.specs.World.{World, Sent}

-- The agent sent a message with the bytes of this one. A number above 2^64 isn't spelled whole, so it may be another.
pub record Spoke (w : World) (agent : ℕ) (m : Message) : Type 0 where
  pub to : NodeId
  pub message : Message
  pub sent : Said w (Agent agent) to message
  pub spelled : message_bytes message ≡ message_bytes m

-- A range is reserved where its agent asked for it, a boot is raised where the agent told it, and a lease is released
-- where some agent gave it back. Of what muxes acknowledged nothing is said here.
abbrev pub HasReason : World → LogCommand → Type 0
HasReason w (Reserve agent boot machine seq) = Spoke w agent (Ask boot machine seq)
HasReason w (Up agent boot) = Spoke w agent (AgentUp boot)
HasReason w (Release n) = (agent : ℕ) × (boot : ℕ) × Spoke w agent (Return boot n)
HasReason w (Granted n muxes) = Unit {0}
HasReason w (Freed n) = Unit {0}

-- of each command of a value
abbrev pub HaveReasons : World → Value → Type 0
HaveReasons w v = Each (HasReason w) v

-- ---- of each node

-- each command that waits at a replica has its reason
abbrev pub QueueHasReasons : World → NodeId → Lists → Type 0
QueueHasReasons w x (OfManager m) = HaveReasons w m.queue
QueueHasReasons w x (OfMux m) = Unit {0}
QueueHasReasons w x (OfAgent a) = Unit {0}

-- nothing is said of datagrams
abbrev pub AnySent : World → Sent → Type 0
AnySent w s = Unit {0}

-- nothing is said of entries
abbrev pub AnyEntry : World → NodeId → Entry → Type 0
AnyEntry w x e = Unit {0}
