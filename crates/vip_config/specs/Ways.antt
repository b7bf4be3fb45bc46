-- Where each machine is reached, from which VIP it leaves, and what it serves, each found at once.
use Rattle.std.specs.Prelude.{◌≡◌, ◌==◌, Bool, ◌&&◌, List, map}
use Rattle.std.specs.List.{flat_map}
use Rattle.std.specs.Map.{lookup}
use Rattle.wire_core.specs.declared.address.Ip4.{Ip4}
use Rattle.wire_core.specs.declared.address.Socket.{Socket}
use Rattle.wire_core.specs.Same.{same_ip, same_proto}
use Rattle.config_text.specs.declared.agents.AgentConf.{AgentConf}
use Rattle.config_text.specs.declared.vips.Endpoint.{Endpoint}
use Rattle.config_text.specs.declared.vips.Member.{Member}
use Rattle.vip_config.specs.declared.services.Service.{Service}
use Rattle.vip_config.specs.declared.parts.VipConf.{VipConf}

-- an agent's machines with their sockets
abbrev pub attaches_of : AgentConf → List (Ip4 × Socket)
attaches_of agent = map (λ machine. (machine.address, machine.attach)) agent.machines

abbrev pub all_attaches : List AgentConf → List (Ip4 × Socket)
all_attaches agents = flat_map attaches_of agents

-- the machines that leave from a VIP, with it
abbrev pub leaves_of : VipConf → List (Ip4 × Ip4)
leaves_of vip = map (λ machine. (machine, vip.address)) vip.snat

abbrev pub all_leaves : List VipConf → List (Ip4 × Ip4)
all_leaves vips = flat_map leaves_of vips

-- the same machine at the same port of the same VIP
abbrev pub same_service : Service → Service → Bool
same_service a b =
    same_ip a.vip b.vip && (same_proto a.proto b.proto && ((a.port == b.port) && same_ip a.machine b.machine))

-- a machine that serves an endpoint of a VIP
abbrev pub service_by : Ip4 → Endpoint → Member → Service × Member
service_by vip endpoint m =
    (record { vip = vip; proto = endpoint.proto; port = endpoint.port; machine = m.address }, m)

-- the machines that serve an endpoint of a VIP, each with itself as a member of it
abbrev pub endpoint_services : Ip4 → Endpoint → List (Service × Member)
endpoint_services vip endpoint = map (service_by vip endpoint) endpoint.machines

abbrev pub services_of : VipConf → List (Service × Member)
services_of vip = flat_map (endpoint_services vip.address) vip.endpoints

abbrev pub all_services : List VipConf → List (Service × Member)
all_services vips = flat_map services_of vips

-- each key is found in one list as in the other: with what stands first beside it
abbrev pub FindsAs : {K V : Type 0} → (K → K → Bool) → List (K × V) → List (K × V) → Type 0
FindsAs {K = K} same found pairs = (key : K) → lookup (same key) found ≡ lookup (same key) pairs
