-- What a node sends, and to whom.
use Rattle.std.specs.Prelude.{ℕ, List, [], ◌∷◌, map, filter, not, ◌==◌, Option, Some, None}
use Rattle.wire_core.specs.declared.address.Ip4.{Ip4}
use Rattle.wire_core.specs.declared.node.NodeId.{NodeId}
use Rattle.wire_core.specs.declared.node.NodeId.TheVariants.{Replica, Agent}
use Rattle.control_msg.specs.declared.message.Message.{Message}
use Rattle.paxos_spec.specs.Five.{five}

-- Where a datagram goes: to a node, to the attach socket of a machine, or out to the network by the router.
pub data Place : Type 0 where
  ToNode : (node : NodeId) → Place
  ToMachine : (machine : Ip4) → Place
  ToRouter : Place

-- What it holds: a message, or a packet.
pub data Said : Type 0 where
  Says : (message : Message) → Said
  Carries : (packet : List ℕ) → Said

-- A datagram: where it goes, and what it holds.
pub record Send : Type 0 where
  pub to : Place
  pub said : Said

-- ---- messages

-- a message to a node
abbrev pub tell : NodeId → Message → Send
tell node m = record { to = ToNode node; said = Says m }

-- the same message to some replicas
abbrev pub tell_each : List ℕ → Message → List Send
tell_each targets m = map (λ i. tell (Replica i) m) targets

-- a message to all five replicas, by index
abbrev pub tell_all : Message → List Send
tell_all m = tell_each five m

-- the replicas but this one, by index
abbrev pub others : ℕ → List ℕ
others me = filter (λ i. not (i == me)) five

-- ---- packets

-- a packet to a place
abbrev pub carry : Place → List ℕ → Send
carry to packet = record { to = to; said = Carries packet }

-- a message or a packet to the agent with this number, where there is one
abbrev pub to_agent : Option ℕ → Said → List Send
to_agent None said = []
to_agent (Some agent) said = record { to = ToNode (Agent agent); said = said } ∷ []
