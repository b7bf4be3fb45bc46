-- The bounds of a configuration's numbers.
use Rattle.std.specs.Prelude.{◌≡◌, ◌≤◌, ℕ}
use Rattle.wire_core.specs.Members.{Each}
use Rattle.wire_core.specs.declared.address.Socket.{Socket}
use Rattle.config_text.specs.declared.agents.AgentConf.{AgentConf}
use Rattle.config_text.specs.declared.settings.Settings.{Settings}
use Rattle.config_text.specs.declared.settings.Timers.{Timers}
use Rattle.config_text.specs.declared.vips.Endpoint.{Endpoint}

abbrev pub IsFrom : ℕ → ℕ → ℕ → Type 0
IsFrom low high n = (low ≤ n) × (n ≤ high)

abbrev pub IsPort : ℕ → Type 0
IsPort n = IsFrom 1 65535 n

abbrev pub HasPort : Socket → Type 0
HasPort socket = IsPort socket.port

-- from a millisecond to a day
abbrev pub IsSpan : ℕ → Type 0
IsSpan n = IsFrom 1 86400000 n

pub record HasSpans (t : Timers) : Type 0 where
  pub lead_silent : IsSpan t.lead_silent
  pub mux_silent : IsSpan t.mux_silent
  pub ask_retry : IsSpan t.ask_retry
  pub flow_idle : IsSpan t.flow_idle
  pub range_idle : IsSpan t.range_idle

pub record HasAgentPorts (a : AgentConf) : Type 0 where
  pub socket : HasPort a.socket
  pub machines : Each (λ machine. HasPort machine.attach) a.machines

pub record HasEndpointPorts (e : Endpoint) : Type 0 where
  pub port : IsPort e.port
  pub machines : Each (λ member. IsPort member.port) e.machines

pub record IsBounded (s : Settings) : Type 0 where
  pub version : s.version ≡ 1
  pub router : HasPort s.router
  pub replicas : Each HasPort s.replicas
  pub muxes : Each HasPort s.muxes
  pub agents : Each HasAgentPorts s.agents
  pub endpoints : Each (λ vip. Each HasEndpointPorts vip.endpoints) s.vips
  pub limit : IsFrom 1 1024 s.limit
  pub timers : HasSpans s.timers
