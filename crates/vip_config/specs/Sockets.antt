-- Whose each socket is.
use Rattle.std.specs.Prelude.{ℕ, true, List, [], ◌∷◌, ◌++◌}
use Rattle.wire_core.specs.declared.address.Socket.{Socket}
use Rattle.config_text.specs.declared.agents.AgentConf.{AgentConf}
use Rattle.config_text.specs.declared.agents.Attach.{Attach}
use Rattle.vip_config.specs.Claims.{Claim, claim, claims_of}
use Rattle.vip_config.specs.declared.place.Place.TheVariants.{Router, Replica as replica_at, Mux as mux_at, AgentSocket}
use Rattle.vip_config.specs.declared.place.Place.TheVariants.{MachineAttach}
use Rattle.vip_config.specs.declared.who.Who.{Who}
use Rattle.vip_config.specs.declared.who.Who.TheVariants.{Replica, Mux, Agent, Machine, Outside}

abbrev pub replica_claims : ℕ → Socket → List (Claim Socket Who)
replica_claims i socket = claim (replica_at i) socket (Replica i) true ∷ []

abbrev pub mux_claims : ℕ → Socket → List (Claim Socket Who)
mux_claims i socket = claim (mux_at i) socket (Mux i) true ∷ []

abbrev pub attach_claims : ℕ → ℕ → Attach → List (Claim Socket Who)
attach_claims i j machine = claim (MachineAttach i j) machine.attach (Machine machine.address) true ∷ []

abbrev pub agent_claims : ℕ → AgentConf → List (Claim Socket Who)
agent_claims i agent = claim (AgentSocket i) agent.socket (Agent i) true ∷ claims_of (attach_claims i) 0 agent.machines

-- each socket of the configuration, in the order of the walk
abbrev pub socket_claims : Socket → List Socket → List Socket → List AgentConf → List (Claim Socket Who)
socket_claims router replicas muxes agents =
    claim Router router Outside true
    ∷ claims_of replica_claims 0 replicas ++ claims_of mux_claims 0 muxes ++ claims_of agent_claims 0 agents
