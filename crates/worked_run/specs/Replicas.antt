-- The replicas of the run: their lists from the opening on, by what they hear.
use Rattle.std.specs.Prelude.{ℕ, zero, suc, List, [], ◌∷◌, map}
use Rattle.wire_core.specs.declared.address.Socket.{Socket}
use Rattle.wire_core.specs.declared.entry.Entry.TheVariants.{Boot}
use Rattle.wire_core.specs.declared.step.Step.{Step}
use Rattle.vip_config.specs.declared.parts.ConfigParts.{ConfigParts}
use Rattle.node_spec.specs.Turns.{Arrived, Ticked, Turn}
use Rattle.node_spec.specs.Steps.{step_of}
use Rattle.manager_spec.specs.Manager.{Manager, opened_manager}
use Rattle.manager_spec.specs.ManagerTable.{manager_step}
use Rattle.worked_run.specs.Configs.{run_config, replica_at, mux_at, agent_at}
use Rattle.worked_run.specs.Run.{hello, prepare, promise, ask, accept_reserve, accepted_reserve, chosen_reserve}
use Rattle.worked_run.specs.Run.{programmed, accept_granted, accepted_granted, chosen_granted}

-- ---- a replica by what it hears

-- a datagram comes to it
abbrev pub hears : ConfigParts → Manager → Socket → List ℕ → Turn Manager
hears c r from bytes = manager_step c r (Arrived from bytes)

-- the clock ticks
abbrev pub ticks : ConfigParts → Manager → ℕ → Turn Manager
ticks c r now = manager_step c r (Ticked now)

-- as it opens in its first boot
abbrev pub opened : ℕ → Manager
opened i = opened_manager run_config i (Boot 1 1 i 1 ∷ [])

-- the step of a turn under the run's configuration
abbrev pub of : Turn Manager → Step
of t = step_of run_config t

-- the steps of some
abbrev pub steps : (ℕ → Turn Manager) → List ℕ → List Step
steps f xs = map (λ i. of (f i)) xs

-- ---- the run

-- datagrams 1 to 5: the mux's MuxHello
abbrev pub hears_hello : ℕ → Turn Manager
hears_hello i = hears run_config (opened i) mux_at hello

-- replica 0 runs for election
abbrev pub campaigns : Turn Manager
campaigns = ticks run_config (hears_hello 0).state 1000

-- 6 to 10: its Prepare
abbrev pub before_prepare : ℕ → Manager
before_prepare zero = campaigns.state
before_prepare (suc i) = (hears_hello (suc i)).state

abbrev pub hears_prepare : ℕ → Turn Manager
hears_prepare i = hears run_config (before_prepare i) (replica_at 0) prepare

-- 11 to 15: the promises, of which the third elects it
abbrev pub promised_by : Manager → ℕ → Turn Manager
promised_by r i = hears run_config r (replica_at i) promise

abbrev pub elected : Manager
elected = (promised_by (promised_by (promised_by (hears_prepare 0).state 0).state 1).state 2).state

-- 16: the agent's Ask
abbrev pub hears_ask : Turn Manager
hears_ask = hears run_config elected agent_at ask

-- 17 to 21: the Accept of the Reserve
abbrev pub before_accept : ℕ → Manager
before_accept zero = hears_ask.state
before_accept (suc i) = (hears_prepare (suc i)).state

abbrev pub hears_accept : ℕ → Turn Manager
hears_accept i = hears run_config (before_accept i) (replica_at 0) accept_reserve

-- 22 to 26: Accepted, of which the third learns it
abbrev pub accepted_by : Manager → ℕ → Turn Manager
accepted_by r i = hears run_config r (replica_at i) accepted_reserve

abbrev pub two_accepted : Manager
two_accepted = (accepted_by (accepted_by (hears_accept 0).state 0).state 1).state

abbrev pub reserves : Turn Manager
reserves = accepted_by two_accepted 2

-- 27 to 30: Chosen
abbrev pub hears_chosen : ℕ → Turn Manager
hears_chosen i = hears run_config (hears_accept i).state (replica_at 0) chosen_reserve

-- 32: the mux's Programmed
abbrev pub hears_programmed : Turn Manager
hears_programmed = hears run_config reserves.state mux_at programmed

-- 33 to 37: the Accept of the Granted
abbrev pub before_accept_granted : ℕ → Manager
before_accept_granted zero = hears_programmed.state
before_accept_granted (suc i) = (hears_chosen (suc i)).state

abbrev pub hears_accept_granted : ℕ → Turn Manager
hears_accept_granted i = hears run_config (before_accept_granted i) (replica_at 0) accept_granted

-- 38 to 42: Accepted, of which the third learns it
abbrev pub granted_accepted_by : Manager → ℕ → Turn Manager
granted_accepted_by r i = hears run_config r (replica_at i) accepted_granted

abbrev pub two_accepted_granted : Manager
two_accepted_granted =
    (granted_accepted_by (granted_accepted_by (hears_accept_granted 0).state 0).state 1).state

abbrev pub grants : Turn Manager
grants = granted_accepted_by two_accepted_granted 2

-- 43 to 46: Chosen
abbrev pub hears_chosen_granted : ℕ → Turn Manager
hears_chosen_granted i = hears run_config (hears_accept_granted i).state (replica_at 0) chosen_granted
