-- Whose each machine is.
use Rattle.std.specs.Prelude.{ℕ, Bool, true, List, [], ◌∷◌, Option, is_some}
use Rattle.std.specs.Map.{lookup}
use Rattle.wire_core.specs.declared.address.Ip4.{Ip4}
use Rattle.wire_core.specs.Same.{same_ip}
use Rattle.config_text.specs.declared.agents.AgentConf.{AgentConf}
use Rattle.config_text.specs.declared.agents.Attach.{Attach}
use Rattle.vip_config.specs.Claims.{Claim, claim, claims_of, owners_of}
use Rattle.vip_config.specs.declared.place.Place.TheVariants.{MachineAddress}

abbrev pub address_claims : ℕ → ℕ → Attach → List (Claim Ip4 ℕ)
address_claims i j machine = claim (MachineAddress i j) machine.address i true ∷ []

abbrev pub agent_address_claims : ℕ → AgentConf → List (Claim Ip4 ℕ)
agent_address_claims i agent = claims_of (address_claims i) 0 agent.machines

-- each machine's address, in the order of the walk
abbrev pub machine_claims : List AgentConf → List (Claim Ip4 ℕ)
machine_claims agents = claims_of agent_address_claims 0 agents

-- each machine's address with the number of its agent
abbrev pub machines_of : List AgentConf → List (Ip4 × ℕ)
machines_of agents = owners_of (machine_claims agents)

-- the number of a machine's agent
abbrev pub agent_of : List (Ip4 × ℕ) → Ip4 → Option ℕ
agent_of machines address = lookup (same_ip address) machines

abbrev pub is_machine : List (Ip4 × ℕ) → Ip4 → Bool
is_machine machines address = is_some (agent_of machines address)
