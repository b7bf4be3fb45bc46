-- The configurations of the run and of the other rows.
use Rattle.std.specs.Prelude.{ℕ, ◌+◌, ◌*◌, List, [], ◌∷◌}
use Rattle.wire_core.specs.declared.address.Ip4.{Ip4}
use Rattle.wire_core.specs.declared.address.Socket.{Socket}
use Rattle.config_text.specs.declared.agents.AgentConf.{AgentConf}
use Rattle.config_text.specs.declared.agents.Attach.{Attach}
use Rattle.vip_config.specs.declared.parts.ConfigParts.{ConfigParts}
use Rattle.vip_config.specs.declared.parts.VipConf.{VipConf}

-- an address by its four numbers
abbrev pub ip : ℕ → ℕ → ℕ → ℕ → Ip4
ip a b c d = record { 0 = a * 16777216 + b * 65536 + c * 256 + d }

-- a socket
abbrev pub at : Ip4 → ℕ → Socket
at a port = record { ip = a; port = port }

-- ---- where each is

-- replica i: 10.0.0.1 to 10.0.0.5
abbrev pub replica_at : ℕ → Socket
replica_at i = at (ip 10 0 0 (i + 1)) 7000

-- mux 0: 10.9.0.1
abbrev pub mux_at : Socket
mux_at = at (ip 10 9 0 1) 7000

-- mux 1: 10.9.0.2
abbrev pub other_mux_at : Socket
other_mux_at = at (ip 10 9 0 2) 7000

-- agent 0: 10.8.0.1
abbrev pub agent_at : Socket
agent_at = at (ip 10 8 0 1) 7000

-- agent 1: 10.8.0.2
abbrev pub other_agent_at : Socket
other_agent_at = at (ip 10 8 0 2) 7000

-- the router: 10.7.0.1
abbrev pub router_at : Socket
router_at = at (ip 10 7 0 1) 7000

-- a machine, 10.1.0.4, and its attach socket
abbrev pub machine : Ip4
machine = ip 10 1 0 4

abbrev pub machine_at : Socket
machine_at = at machine 9000

-- another machine, 10.1.0.5, and its attach socket
abbrev pub other_machine : Ip4
other_machine = ip 10 1 0 5

abbrev pub other_machine_at : Socket
other_machine_at = at other_machine 9000

-- the VIP: 192.0.2.10
abbrev pub vip : Ip4
vip = ip 192 0 2 10

-- ---- configurations

-- the two machines as agents name them
abbrev pub attached : Attach
attached = record { address = machine; attach = machine_at }

abbrev pub other_attached : Attach
other_attached = record { address = other_machine; attach = other_machine_at }

-- an agent with these machines
abbrev pub agent : Socket → List Attach → AgentConf
agent socket machines = record { socket = socket; machines = machines }

-- the VIP with ports to lease from 1024 on, from which these machines leave
abbrev pub leasing : ℕ → List Ip4 → VipConf
leasing high machines = record { address = vip; low = 1024; high = high; snat = machines; endpoints = [] }

-- The configuration of the run: one mux, one agent with one machine, one VIP with 8,064 ranges.
abbrev pub run_config : ConfigParts
run_config = record {
  version = 1;
  router = router_at;
  replicas = replica_at 0 ∷ replica_at 1 ∷ replica_at 2 ∷ replica_at 3 ∷ replica_at 4 ∷ [];
  muxes = mux_at ∷ [];
  agents = agent agent_at (attached ∷ []) ∷ [];
  vips = leasing 65535 (machine ∷ []) ∷ [];
  limit = 16;
  timers = record { lead_silent = 1000; mux_silent = 5000; ask_retry = 500; flow_idle = 60000; range_idle = 30000 };
}

-- two muxes, and two agents with a machine each
abbrev pub two_each : ConfigParts
two_each = record run_config {
  muxes = mux_at ∷ other_mux_at ∷ [];
  agents = agent agent_at (attached ∷ []) ∷ agent other_agent_at (other_attached ∷ []) ∷ [];
  vips = leasing 1087 (machine ∷ other_machine ∷ []) ∷ [];
}

-- two machines, and one range
abbrev pub one_range : ConfigParts
one_range = record run_config {
  agents = agent agent_at (attached ∷ other_attached ∷ []) ∷ [];
  vips = leasing 1031 (machine ∷ other_machine ∷ []) ∷ [];
}

-- a machine may have one row
abbrev pub one_row : ConfigParts
one_row = record run_config { limit = 1 }
