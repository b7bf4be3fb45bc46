-- Whom a reply reaches: the machine that opened the connection, and no other.
use Rattle.std.specs.Prelude.{◌≡◌, ◌⊎◌, ℕ, Bool, true, false, List, [], ◌∷◌, Some, Ok}
use Rattle.wire_core.specs.Flows.{reverse}
use Rattle.wire_core.specs.Members.{In}
use Rattle.wire_core.specs.declared.address.Socket.{Socket}
use Rattle.wire_core.specs.declared.connection.Conn.{Conn}
use Rattle.wire_core.specs.declared.node.NodeId.TheVariants.{Agent}
use Rattle.packet_spec.specs.Edits.{translate_destination}
use Rattle.packet_spec.specs.Packets.{key_of, read_packet}
use Rattle.ipip.specs.Wrapping.{Unwrapped, unwrapped}
use Rattle.vip_config.specs.declared.parts.ConfigParts.{ConfigParts}
use Rattle.vip_config.specs.declared.who.Who.{Who}
use Rattle.vip_config.specs.declared.who.Who.TheVariants as who
use Rattle.node_spec.specs.Datagrams.{Brought, heard}
use Rattle.node_spec.specs.Sends.{Send, ToMachine, carry}
use Rattle.node_spec.specs.Turns.{Input, Arrived}
use Rattle.agent_spec.specs.Agent.{Agent as AgentLists}
use Rattle.agent_spec.specs.AgentTable.{agent_step}
use Rattle.world_spec.specs.Nodes.{OfAgent}
use Rattle.world_spec.specs.Views.{conns}
use Rattle.world_spec.specs.World.{World, at}
use Rattle.world_laws.specs.Safety.{outer_end}

-- who brings packets from outside: muxes, and other agents by the short way
abbrev pub brings : Who → Bool
brings (who.Replica i) = false
brings (who.Mux i) = true
brings (who.Agent i) = true
brings (who.Machine machine) = false
brings who.Outside = false

-- An input that is a reply to a connection: a packet without fault that a mux or an agent wrapped, with the five
-- numbers of the connection's packets reversed, whoever made it.
pub record IsReply (cfg : ConfigParts) (c : Conn) (input : Input) (packet : List ℕ) : Type 0 where
  pub from : Socket
  pub bytes : List ℕ
  pub arrived : input ≡ Arrived from bytes
  pub sender : Who
  pub frame : List ℕ
  pub brought : heard cfg from bytes ≡ Brought sender frame
  pub may_bring : brings sender ≡ true
  pub outer : Unwrapped
  pub outer_is : unwrapped frame ≡ Ok outer
  pub inner_is : read_packet outer.bytes ≡ Ok packet
  pub key : reverse (key_of packet) ≡ outer_end c

-- the packet as it is handed to the machine that opened the connection: to its address and port, the rest as it came
abbrev pub handed : Conn → List ℕ → Send
handed c packet = carry (ToMachine c.machine) (translate_destination c.machine c.sport 0 packet)

-- Whichever agent gets a reply to a live connection, of any agent: it sends nothing, or one datagram, which hands the
-- packet to the machine that opened the connection.
abbrev pub RepliesReachTheirMachine : ConfigParts → World → Type 0
RepliesReachTheirMachine cfg w =
    (agent : ℕ) (a : AgentLists) → at w (Agent agent) ≡ Some (OfAgent a) → (c : Conn) → In c (conns w) → (input : Input)
    (packet : List ℕ) → IsReply cfg c input packet
    → ((agent_step cfg a input).sends ≡ []) ⊎ ((agent_step cfg a input).sends ≡ handed c packet ∷ [])
