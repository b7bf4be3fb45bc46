-- Which machines leave from a VIP, which serve it, and where each machine is reached.
use Rattle.std.specs.Prelude.{ℕ, Bool, ◌&&◌, ◌==◌, if◌then◌else◌, List, [], find, Option, Some, None, option_map}
use Rattle.std.specs.List.{list_any, flat_map}
use Rattle.std.specs.Map.{lookup}
use Rattle.wire_core.specs.declared.address.Ip4.{Ip4}
use Rattle.wire_core.specs.declared.address.Socket.{Socket}
use Rattle.wire_core.specs.declared.flow.FlowKey.{FlowKey}
use Rattle.wire_core.specs.Same.{same_ip, same_proto}
use Rattle.config_text.specs.declared.vips.Endpoint.{Endpoint}
use Rattle.config_text.specs.declared.vips.Member.{Member}
use Rattle.vip_config.specs.Machines.{agent_of, machines_of}
use Rattle.vip_config.specs.Ways.{all_attaches}
use Rattle.vip_config.specs.declared.parts.ConfigParts.{ConfigParts}
use Rattle.vip_config.specs.declared.parts.VipConf.{VipConf}
use Rattle.vip_config.specs.declared.services.Service.{Service}

-- ---- machines

-- the number of a machine's agent
abbrev pub agent_with : ConfigParts → Ip4 → Option ℕ
agent_with c machine = agent_of (machines_of c.agents) machine

-- The socket from which a machine's packets come, and to which they are handed.
abbrev pub attach_of : ConfigParts → Ip4 → Option Socket
attach_of c machine = lookup (same_ip machine) (all_attaches c.agents)

-- ---- leaving

-- the address is a VIP
abbrev pub is_vip : List VipConf → Ip4 → Bool
is_vip vips a = list_any (λ vip. same_ip vip.address a) vips

-- the machine's connections leave from this VIP
abbrev pub is_snat : Ip4 → VipConf → Bool
is_snat machine vip = list_any (same_ip machine) vip.snat

-- the machine's connections leave from the VIP with this address
abbrev pub has_snat : List VipConf → Ip4 → Ip4 → Bool
has_snat vips a machine = list_any (λ vip. same_ip vip.address a && is_snat machine vip) vips

-- The VIP from which a machine's connections leave.
unfoldable pub snat_vip : List VipConf → Ip4 → Option Ip4
snat_vip vips machine = option_map (λ vip. vip.address) (find (is_snat machine) vips)

-- ---- serving

-- packets with this key are for the endpoint
abbrev pub serves : FlowKey → Endpoint → Bool
serves k endpoint = same_proto endpoint.proto k.proto && (endpoint.port == k.dport)

-- the endpoints of the VIP with this address
abbrev pub endpoints_at : List VipConf → Ip4 → List Endpoint
endpoints_at vips a = flat_map (λ vip. if same_ip vip.address a then vip.endpoints else []) vips

-- The endpoint that packets with this key are for.
unfoldable pub endpoint_for : List VipConf → FlowKey → Option Endpoint
endpoint_for vips k = find (serves k) (endpoints_at vips k.dst)

-- the machine among those that serve an endpoint
abbrev pub member_in : Ip4 → Option Endpoint → Option Member
member_in machine None = None
member_in machine (Some endpoint) = find (λ (m : Member). same_ip m.address machine) endpoint.machines

-- what the machine serves where packets with this key are for it
abbrev pub service_for : FlowKey → Ip4 → Service
service_for k machine = record { vip = k.dst; proto = k.proto; port = k.dport; machine = machine }

-- The machine as one that serves the endpoint that packets with this key are for.
unfoldable pub member_at : List VipConf → FlowKey → Ip4 → Option Member
member_at vips k machine = member_in machine (endpoint_for vips k)
