-- What may be leased under a configuration.
use Rattle.std.specs.Prelude.{ℕ, List, map, sum, unwrap_or}
use Rattle.std.specs.List.{flat_map}
use Rattle.wire_core.specs.declared.address.Ip4.{Ip4}
use Rattle.wire_core.specs.declared.rules.LeaseRules.{LeaseRules}
use Rattle.wire_core.specs.declared.rules.MachineRule.{MachineRule}
use Rattle.wire_core.specs.declared.rules.VipRule.{VipRule}
use Rattle.wire_core.specs.Ranges.{leasable_count}
use Rattle.config_text.specs.declared.vips.Endpoint.{Endpoint}
use Rattle.vip_config.specs.Machines.{agent_of, machines_of}
use Rattle.vip_config.specs.declared.parts.ConfigParts.{ConfigParts}
use Rattle.vip_config.specs.declared.parts.VipConf.{VipConf}

abbrev pub taken_ports : List Endpoint → List ℕ
taken_ports endpoints = map (λ endpoint. endpoint.port) endpoints

abbrev pub vip_rule : VipConf → VipRule
vip_rule vip = record { vip = vip.address; low = vip.low; high = vip.high; taken = taken_ports vip.endpoints }

-- a machine with the number of its agent, which each address of a `snat` has
abbrev pub machine_rule : List (Ip4 × ℕ) → Ip4 → Ip4 → MachineRule
machine_rule machines vip machine =
    record { machine = machine; agent = unwrap_or (agent_of machines machine) 0; vip = vip }

abbrev pub machine_rules : List (Ip4 × ℕ) → VipConf → List MachineRule
machine_rules machines vip = map (machine_rule machines vip.address) vip.snat

abbrev pub all_machine_rules : List (Ip4 × ℕ) → List VipConf → List MachineRule
all_machine_rules machines vips = flat_map (machine_rules machines) vips

abbrev pub rules_of : List (Ip4 × ℕ) → ConfigParts → LeaseRules
rules_of machines c =
    record { vips = map vip_rule c.vips; machines = all_machine_rules machines c.vips; limit = c.limit }

abbrev pub lease_rules_of : ConfigParts → LeaseRules
lease_rules_of c = rules_of (machines_of c.agents) c

-- how many ranges may be leased over all the VIPs
abbrev pub ranges_of : ConfigParts → ℕ
ranges_of c = sum (map (λ vip. leasable_count (lease_rules_of c) vip.address) c.vips)
