-- What holds of every configuration.
use Rattle.std.specs.Prelude.{◌≡◌, ℕ, ◌+◌, ◌%◌, ◌<◌, ◌≤◌, List, [], ◌∷◌, ◌++◌, map, length}
use Rattle.std.specs.List.{flat_map}
use Rattle.wire_core.specs.declared.address.Ip4.{Ip4}
use Rattle.wire_core.specs.declared.address.Socket.{Socket}
use Rattle.wire_core.specs.Same.{same_ip}
use Rattle.wire_core.specs.declared.flow.Proto.{Proto}
use Rattle.wire_core.specs.Members.{In, Each}
use Rattle.config_text.specs.declared.agents.AgentConf.{AgentConf}
use Rattle.config_text.specs.declared.vips.Endpoint.{Endpoint}
use Rattle.config_text.specs.declared.vips.Member.{Member}
use Rattle.config_text.specs.Bounds.{HasAgentPorts, HasEndpointPorts, HasPort, HasSpans, IsFrom}
use Rattle.config_text.specs.Sizes.{HasLength}
use Rattle.vip_config.specs.Claims.{owners_of}
use Rattle.vip_config.specs.Machines.{machines_of}
use Rattle.vip_config.specs.Sockets.{socket_claims}
use Rattle.vip_config.specs.Ways.{FindsAs, all_attaches, all_leaves, all_services, same_service}
use Rattle.vip_config.specs.declared.parts.ConfigParts.{ConfigParts}
use Rattle.vip_config.specs.declared.parts.VipConf.{VipConf}
use Rattle.vip_config.specs.declared.services.Service.{Service}
use Rattle.vip_config.specs.declared.who.Who.{Who}

-- no two members are equal
abbrev pub Once : {X : Type 0} → List X → Type 0
Once [] = Unit {0}
Once (x ∷ xs) = ¬ (In x xs) × Once xs

abbrev pub agent_sockets : AgentConf → List Socket
agent_sockets agent = agent.socket ∷ map (λ machine. machine.attach) agent.machines

abbrev pub all_sockets : ConfigParts → List Socket
all_sockets c = c.router ∷ c.replicas ++ c.muxes ++ flat_map agent_sockets c.agents

abbrev pub all_machines : ConfigParts → List Ip4
all_machines c = flat_map (λ agent. map (λ machine. machine.address) agent.machines) c.agents

abbrev pub all_vips : ConfigParts → List Ip4
all_vips c = map (λ vip. vip.address) c.vips

abbrev pub all_snat : ConfigParts → List Ip4
all_snat c = flat_map (λ vip. vip.snat) c.vips

abbrev pub endpoint_port : Endpoint → Proto × ℕ
endpoint_port endpoint = (endpoint.proto, endpoint.port)

abbrev pub members_of : Endpoint → List Ip4
members_of endpoint = map (λ member. member.address) endpoint.machines

-- the protocol, address and port of each machine of an endpoint
abbrev pub machine_ports : Endpoint → List (Proto × Ip4 × ℕ)
machine_ports endpoint = map (λ member. (endpoint.proto, member.address, member.port)) endpoint.machines

abbrev pub all_machine_ports : ConfigParts → List (Proto × Ip4 × ℕ)
all_machine_ports c = flat_map (λ vip. flat_map machine_ports vip.endpoints) c.vips

-- each machine that serves the endpoint is one of these
abbrev pub HasMachines : List Ip4 → Endpoint → Type 0
HasMachines machines endpoint = Each (λ address. In address machines) (members_of endpoint)

-- ports for leases are whole ranges of eight
pub record HasRanges (vip : VipConf) : Type 0 where
  pub low : vip.low % 8 ≡ 0
  pub high : (vip.high + 1) % 8 ≡ 0
  pub above : 1024 ≤ vip.low
  pub order : vip.low < vip.high
  pub below : vip.high ≤ 65535

-- The rules: nothing is shared that may not be, and what is named is there.
pub record KeepsRules (c : ConfigParts) : Type 0 where
  pub sockets : Once (all_sockets c)
  pub machines : Once (all_machines c)
  pub vips : Once (all_vips c)
  pub vips_apart : Each (λ address. ¬ (In address (all_machines c))) (all_vips c)
  pub ranges : Each HasRanges c.vips
  pub snat : Once (all_snat c)
  pub snat_machines : Each (λ address. In address (all_machines c)) (all_snat c)
  pub ports : Each (λ vip. Once (map endpoint_port vip.endpoints)) c.vips
  pub members : Each (λ vip. Each (λ endpoint. Once (members_of endpoint)) vip.endpoints) c.vips
  pub members_machines : Each (λ vip. Each (HasMachines (all_machines c)) vip.endpoints) c.vips
  pub machine_ports : Once (all_machine_ports c)

-- how long the lists are
pub record HasLengths (c : ConfigParts) : Type 0 where
  pub replicas : length c.replicas ≡ 5
  pub muxes : HasLength 1 16 c.muxes
  pub agents : HasLength 1 256 c.agents
  pub machines : Each (λ agent. HasLength 1 64 agent.machines) c.agents
  pub vips : HasLength 1 64 c.vips
  pub snat : Each (λ vip. HasLength 0 4096 vip.snat) c.vips
  pub endpoints : Each (λ vip. HasLength 0 1024 vip.endpoints) c.vips
  pub members : Each (λ vip. Each (λ endpoint. HasLength 1 64 endpoint.machines) vip.endpoints) c.vips

-- the version, and the bounds of ports, limit and timers
pub record HasBounds (c : ConfigParts) : Type 0 where
  pub version : c.version ≡ 1
  pub router : HasPort c.router
  pub replicas : Each HasPort c.replicas
  pub muxes : Each HasPort c.muxes
  pub agents : Each HasAgentPorts c.agents
  pub endpoints : Each (λ vip. Each HasEndpointPorts vip.endpoints) c.vips
  pub limit : IsFrom 1 1024 c.limit
  pub timers : HasSpans c.timers

-- what is looked up in a configuration by a hash: whose a socket is, a machine's agent, its socket, its VIP and what it
-- serves
pub record Found : Type 0 where
  pub sockets : List (Socket × Who)
  pub machines : List (Ip4 × ℕ)
  pub attached : List (Ip4 × Socket)
  pub leaving : List (Ip4 × Ip4)
  pub serving : List (Service × Member)

-- The parts keep the rules, and what is looked up is what they say.
pub record IsConfig (c : ConfigParts) (found : Found) : Type 0 where
  pub rules : KeepsRules c
  pub lengths : HasLengths c
  pub bounds : HasBounds c
  pub of_sockets : found.sockets ≡ owners_of (socket_claims c.router c.replicas c.muxes c.agents)
  pub of_machines : found.machines ≡ machines_of c.agents
  pub of_attached : FindsAs same_ip found.attached (all_attaches c.agents)
  pub of_leaving : FindsAs same_ip found.leaving (all_leaves c.vips)
  pub of_serving : FindsAs same_service found.serving (all_services c.vips)
