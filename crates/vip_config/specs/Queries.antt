-- What is asked of a configuration.
use Rattle.std.specs.Prelude.{◌≡◌, ◌<◌, ℕ, List, length, slice_get, Option, Some, None, unwrap_or, option_map}
use Rattle.std.specs.Map.{lookup}
use Rattle.wire_core.specs.Members.{In, Each}
use Rattle.wire_core.specs.declared.address.Ip4.{Ip4}
use Rattle.wire_core.specs.declared.address.Socket.{Socket}
use Rattle.config_text.specs.declared.agents.AgentConf.{AgentConf}
use Rattle.wire_core.specs.declared.node.NodeId.{NodeId}
use Rattle.wire_core.specs.declared.node.NodeId.TheVariants.{Replica, Mux, Agent}
use Rattle.wire_core.specs.Same.{same_socket}
use Rattle.vip_config.specs.Claims.{owners_of}
use Rattle.vip_config.specs.Machines.{agent_of, machines_of}
use Rattle.vip_config.specs.Rules.{all_machines, all_sockets}
use Rattle.vip_config.specs.Sockets.{socket_claims}
use Rattle.vip_config.specs.declared.counts.Counts.{Counts}
use Rattle.vip_config.specs.declared.parts.ConfigParts.{ConfigParts}
use Rattle.vip_config.specs.declared.who.Who.{Who}
use Rattle.vip_config.specs.declared.who.Who.TheVariants.{Replica as replica, Mux as mux, Agent as agent, Machine}
use Rattle.vip_config.specs.declared.who.Who.TheVariants.{Outside}

-- each socket with whose it is: the router's is of the outside
abbrev pub sockets_of : ConfigParts → List (Socket × Who)
sockets_of c = owners_of (socket_claims c.router c.replicas c.muxes c.agents)

abbrev pub who_of : ConfigParts → Socket → Who
who_of c socket = unwrap_or (lookup (same_socket socket) (sockets_of c)) Outside

abbrev pub socket_of : ConfigParts → NodeId → Option Socket
socket_of c (Replica i) = slice_get c.replicas i
socket_of c (Mux i) = slice_get c.muxes i
socket_of c (Agent i) = option_map (λ agent. agent.socket) (slice_get c.agents i)

abbrev pub counts_of : ConfigParts → Counts
counts_of c = record {
  muxes = length c.muxes;
  agents = length c.agents;
  machines = length (all_machines c);
  vips = length c.vips;
}

abbrev pub node_owner : NodeId → Who
node_owner (Replica i) = replica i
node_owner (Mux i) = mux i
node_owner (Agent i) = agent i

-- a node's number is one of the configuration's, and a machine's address a machine's
abbrev pub IsOwner : ConfigParts → Who → Type 0
IsOwner c (replica i) = i < length c.replicas
IsOwner c (mux i) = i < length c.muxes
IsOwner c (agent i) = i < length c.agents
IsOwner c (Machine address) = In address (all_machines c)
IsOwner c Outside = Unit {0}

-- A node's socket is that node's and no other, an attach socket its machine's, and the router's and all others are of
-- the outside; whoever owns a socket is configured. A machine is of the agent that has it, and no other address is one.
pub record KnowsOwners (c : ConfigParts) : Type 0 where
  pub router : who_of c c.router ≡ Outside
  pub nodes : (n : NodeId) (socket : Socket) → socket_of c n ≡ Some socket → who_of c socket ≡ node_owner n
  pub only : (n : NodeId) (socket : Socket) → who_of c socket ≡ node_owner n → socket_of c n ≡ Some socket
  pub configured : (socket : Socket) → IsOwner c (who_of c socket)
  pub attached : (i : ℕ) (a : AgentConf) → slice_get c.agents i ≡ Some a
      → Each (λ machine. who_of c machine.attach ≡ Machine machine.address) a.machines
  pub others : (socket : Socket) → ¬ (In socket (all_sockets c)) → who_of c socket ≡ Outside
  pub machines : (i : ℕ) (a : AgentConf) → slice_get c.agents i ≡ Some a
      → Each (λ machine. agent_of (machines_of c.agents) machine.address ≡ Some i) a.machines
  pub no_machines : (address : Ip4) → ¬ (In address (all_machines c)) → agent_of (machines_of c.agents) address ≡ None
