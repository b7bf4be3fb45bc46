-- What a replica tells an agent: a Grant only of a lease that was granted, to the machine, agent and boot of its birth.
use Rattle.std.specs.Prelude.{◌≡◌, ℕ, ◌<◌}
use Rattle.wire_core.specs.declared.address.Ip4.{Ip4}
use Rattle.wire_core.specs.declared.node.NodeId.{NodeId}
use Rattle.wire_core.specs.declared.node.NodeId.TheVariants.{Replica, Mux, Agent}
use Rattle.wire_core.specs.declared.range.Range.{Range}
use Rattle.wire_core.specs.Ranges.{range_at}
use Rattle.vip_config.specs.declared.parts.ConfigParts.{ConfigParts}
use Rattle.control_msg.specs.declared.message.Message.{Message}
use Rattle.control_msg.specs.declared.message.Message.TheVariants.{Grant, Denied, Returned, AgentKnown}
use Rattle.lease_spec.specs.declared.row.Row.{Row}
use Rattle.node_spec.specs.Sends.{Place, ToNode, ToMachine, ToRouter, Said, Says, Carries}
use Rattle.world_spec.specs.World.{World, Sent}
use Rattle.world_laws.specs.Living.{IsBorn, WasGranted}

-- The number is a lease of this agent in this boot: it was born so, with this machine and range, and granted.
pub record IsLease (cfg : ConfigParts) (w : World) (agent boot n : ℕ) (range : Range) (machine : Ip4) : Type 0 where
  pub born : Row
  pub birth : IsBorn cfg w n born
  pub agent_is : born.agent ≡ agent
  pub boot_is : born.boot ≡ boot
  pub range_is : born.range ≡ range
  pub machine_is : born.machine ≡ machine
  pub granted : WasGranted cfg w n

-- what a replica tells an agent: four kinds of messages, of which a Grant is true
abbrev pub IsForAgent : ConfigParts → World → ℕ → Message → Type 0
IsForAgent cfg w agent (Grant boot machine seq n vip start) = IsLease cfg w agent boot n (range_at vip start) machine
IsForAgent cfg w agent (Denied boot machine seq reason number) = reason < 256
IsForAgent cfg w agent (Returned boot n) = Unit {0}
IsForAgent cfg w agent (AgentKnown boot) = Unit {0}
IsForAgent cfg w agent _ = ⊥

-- a datagram of a replica to an agent is one of these
abbrev pub IsAnswer : ConfigParts → World → Place → Said → Type 0
IsAnswer cfg w (ToNode (Replica i)) said = Unit {0}
IsAnswer cfg w (ToNode (Mux i)) said = Unit {0}
IsAnswer cfg w (ToNode (Agent agent)) (Says m) = IsForAgent cfg w agent m
IsAnswer cfg w (ToNode (Agent agent)) (Carries packet) = ⊥
IsAnswer cfg w (ToMachine machine) said = Unit {0}
IsAnswer cfg w ToRouter said = Unit {0}

-- the same, where a replica sent it
abbrev pub IsAnswerOf : ConfigParts → World → NodeId → Place → Said → Type 0
IsAnswerOf cfg w (Replica i) to said = IsAnswer cfg w to said
IsAnswerOf cfg w (Mux i) to said = Unit {0}
IsAnswerOf cfg w (Agent i) to said = Unit {0}

-- of each datagram
abbrev pub AnswersAreTrue : ConfigParts → World → Sent → Type 0
AnswersAreTrue cfg w s = IsAnswerOf cfg w s.from s.to s.said
