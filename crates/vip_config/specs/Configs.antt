-- A configuration that keeps every rule, or the first member that breaks one.
use Rattle.std.specs.Prelude.{ℕ, List, [], map, Option, Some, None, Result, Ok, Err}
use Rattle.std.specs.Option.{option_or}
use Rattle.config_text.specs.declared.settings.Settings.{Settings}
use Rattle.config_text.specs.declared.vips.VipText.{VipText}
use Rattle.config_text.specs.Faults.{Fault, field, ◌>>=◌}
use Rattle.config_text.specs.Form.{settings_of}
use Rattle.wire_core.specs.declared.address.Ip4.{Ip4}
use Rattle.wire_core.specs.Same.{same_ip, same_socket}
use Rattle.vip_config.specs.Claims.{claims_of, first_broken}
use Rattle.vip_config.specs.Endpoints.{same_endpoint_key, vip_endpoint_claims}
use Rattle.vip_config.specs.Machines.{machine_claims, machines_of}
use Rattle.vip_config.specs.Places.{path}
use Rattle.vip_config.specs.Snat.{vip_snat_claims}
use Rattle.vip_config.specs.Sockets.{socket_claims}
use Rattle.vip_config.specs.Vips.{first_wrong_port, vip_claims}
use Rattle.vip_config.specs.declared.parts.ConfigParts.{ConfigParts}
use Rattle.vip_config.specs.declared.parts.VipConf.{VipConf}
use Rattle.vip_config.specs.declared.place.Place.{Place}

-- 1. No two sockets are equal.
abbrev pub shared_socket : Settings → Option Place
shared_socket s = first_broken same_socket [] (socket_claims s.router s.replicas s.muxes s.agents)

-- 2. No two machine addresses are equal.
abbrev pub shared_machine : Settings → Option Place
shared_machine s = first_broken same_ip [] (machine_claims s.agents)

-- 3. No VIP's address is an earlier VIP's or a machine's.
abbrev pub shared_vip : List (Ip4 × ℕ) → List VipText → Option Place
shared_vip machines vips = first_broken same_ip [] (claims_of (vip_claims machines) 0 vips)

-- 4. Each VIP's ports begin and end where ranges do.
abbrev pub wrong_port : List VipText → Option Place
wrong_port vips = first_wrong_port 0 vips

-- 5. Each `snat` address is a machine, and stands once over all.
abbrev pub wrong_snat : List (Ip4 × ℕ) → List VipText → Option Place
wrong_snat machines vips = first_broken same_ip [] (claims_of (vip_snat_claims machines) 0 vips)

-- 6. Endpoints have their own ports, and configured machines, each once and each with a port of its own.
abbrev pub wrong_endpoint : List (Ip4 × ℕ) → List VipText → Option Place
wrong_endpoint machines vips = first_broken same_endpoint_key [] (claims_of (vip_endpoint_claims machines) 0 vips)

abbrev pub broken_vip_rule : List (Ip4 × ℕ) → List VipText → Option Place
broken_vip_rule machines vips =
    option_or (shared_vip machines vips)
    (option_or (wrong_port vips) (option_or (wrong_snat machines vips) (wrong_endpoint machines vips)))

-- the first member, by the rules in their order, that breaks one
abbrev pub broken_rule : Settings → Option Place
broken_rule s =
    option_or (shared_socket s) (option_or (shared_machine s) (broken_vip_rule (machines_of s.agents) s.vips))

abbrev pub vip_conf_of : VipText → VipConf
vip_conf_of v = record { address = v.address; low = v.low; high = v.high; snat = v.snat; endpoints = v.endpoints }

abbrev pub parts_of : Settings → ConfigParts
parts_of s = record {
  version = s.version;
  router = s.router;
  replicas = s.replicas;
  muxes = s.muxes;
  agents = s.agents;
  vips = map vip_conf_of s.vips;
  limit = s.limit;
  timers = s.timers;
}

abbrev pub unless_broken : Option Place → ConfigParts → Result ConfigParts Fault
unless_broken None parts = Ok parts
unless_broken (Some place) parts = Err (field (path place))

-- the rules are tested once every value is of its form
abbrev pub checked : Settings → Result ConfigParts Fault
checked s = unless_broken (broken_rule s) (parts_of s)

unfoldable pub config_of : List ℕ → Result ConfigParts Fault
config_of bytes = settings_of bytes >>= checked
