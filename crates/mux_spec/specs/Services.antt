-- The machines of each endpoint, and which of them a flow goes to.
use Rattle.std.specs.Prelude.{ℕ, ◌%◌, ◌&&◌, Bool, ◌==◌, List, map, length, slice_get, Option, Some, None}
use Rattle.std.specs.List.{flat_map}
use Rattle.std.specs.Map.{lookup}
use Rattle.wire_core.specs.declared.address.Ip4.{Ip4}
use Rattle.wire_core.specs.declared.flow.FlowKey.{FlowKey}
use Rattle.config_text.specs.declared.vips.Endpoint.{Endpoint}
use Rattle.vip_config.specs.Rules.{members_of}
use Rattle.vip_config.specs.declared.parts.VipConf.{VipConf}
use Rattle.vip_config.specs.declared.parts.ConfigParts.{ConfigParts}
use Rattle.wire_core.specs.Flows.{hash}
use Rattle.wire_core.specs.Same.{same_ip, same_proto}
use Rattle.mux_spec.specs.declared.service.Service.{Service}

-- the same VIP, protocol and port
abbrev pub same_service : Service → Service → Bool
same_service a b = same_ip a.vip b.vip && same_proto a.proto b.proto && (a.port == b.port)

-- an endpoint's service with its machines
abbrev pub service_of : Ip4 → Endpoint → Service × List Ip4
service_of vip e = (record { vip = vip; proto = e.proto; port = e.port }, members_of e)

-- a VIP's services
abbrev pub vip_services : VipConf → List (Service × List Ip4)
vip_services v = map (service_of v.address) v.endpoints

-- what all endpoints serve, with their machines
unfoldable pub services_of : ConfigParts → List (Service × List Ip4)
services_of c = flat_map vip_services c.vips

-- the machine that a hash chooses of an endpoint's
abbrev pub member_by : ℕ → Option (List Ip4) → Option Ip4
member_by hash None = None
member_by hash (Some machines) = slice_get machines (hash % length machines)

-- the machine that a hash chooses of a service
unfoldable pub endpoint_of : List (Service × List Ip4) → Service → ℕ → Option Ip4
endpoint_of services s hash = member_by hash (lookup (same_service s) services)

-- what a packet with this key asks for
abbrev pub served_by : FlowKey → Service
served_by k = record { vip = k.dst; proto = k.proto; port = k.dport }

-- the machine that the hash chooses where a packet goes to an endpoint
unfoldable pub chosen_for : ConfigParts → FlowKey → Option Ip4
chosen_for c k = endpoint_of (services_of c) (served_by k) (hash k)
