-- The lengths of a configuration's lists.
use Rattle.std.specs.Prelude.{◌≡◌, ◌≤◌, ℕ, length, List}
use Rattle.wire_core.specs.Members.{Each}
use Rattle.config_text.specs.declared.agents.AgentConf.{AgentConf}
use Rattle.config_text.specs.declared.settings.Settings.{Settings}
use Rattle.config_text.specs.declared.vips.Endpoint.{Endpoint}
use Rattle.config_text.specs.declared.vips.VipText.{VipText}

abbrev pub HasLength : {A : Type 0} → ℕ → ℕ → List A → Type 0
HasLength low high xs = (low ≤ length xs) × (length xs ≤ high)

abbrev pub IsSizedAgent : AgentConf → Type 0
IsSizedAgent a = HasLength 1 64 a.machines

abbrev pub IsSizedEndpoint : Endpoint → Type 0
IsSizedEndpoint e = HasLength 1 64 e.machines

pub record IsSizedVip (v : VipText) : Type 0 where
  pub snat : HasLength 0 4096 v.snat
  pub endpoints : HasLength 0 1024 v.endpoints
  pub members : Each IsSizedEndpoint v.endpoints

pub record IsSized (s : Settings) : Type 0 where
  pub replicas : length s.replicas ≡ 5
  pub muxes : HasLength 1 16 s.muxes
  pub agents : HasLength 1 256 s.agents
  pub vips : HasLength 1 64 s.vips
  pub of_agents : Each IsSizedAgent s.agents
  pub of_vips : Each IsSizedVip s.vips
