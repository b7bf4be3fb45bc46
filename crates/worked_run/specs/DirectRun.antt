-- A connection that leaves the mux: 16 steps, from its SYN to the packets that go from agent to agent.
use Rattle.std.specs.Prelude.{ℕ, List, [], ◌∷◌, drop, Option, Some, None, ◌≡◌}
use Rattle.wire_core.specs.declared.act.Act.TheVariants.{Hand, Open}
use Rattle.wire_core.specs.declared.address.Ip4.{Ip4}
use Rattle.wire_core.specs.declared.address.Socket.{Socket}
use Rattle.wire_core.specs.Steps.{no_step}
use Rattle.wire_core.specs.declared.cause.DropCause.TheVariants.{BadSender, NotFromMux}
use Rattle.wire_core.specs.declared.connection.Conn.{Conn}
use Rattle.wire_core.specs.declared.entry.Entry.TheVariants.{Boot}
use Rattle.wire_core.specs.declared.flow.Proto.TheVariants.{Tcp}
use Rattle.wire_core.specs.declared.step.Step.{Step}
use Rattle.config_text.specs.declared.vips.Endpoint.{Endpoint}
use Rattle.vip_config.specs.declared.parts.ConfigParts.{ConfigParts}
use Rattle.node_spec.specs.Turns.{Arrived, Turn}
use Rattle.node_spec.specs.Steps.{step_of}
use Rattle.mux_spec.specs.Mux.{Mux, opened_mux}
use Rattle.agent_spec.specs.declared.connection.Connection.{Connection}
use Rattle.agent_spec.specs.Agent.{Agent, opened_agent}
use Rattle.worked_run.specs.Configs.{agent_at, ip, leasing, machine, machine_at, mux_at, other_agent_at, other_machine}
use Rattle.worked_run.specs.Configs.{other_machine_at, other_mux_at, replica_at, router_at, two_each, vip}
use Rattle.worked_run.specs.Run.{grant, program}
use Rattle.worked_run.specs.Orders.{redirect_asked, redirect_opener, redirect_server}
use Rattle.worked_run.specs.Direct as segments
use Rattle.worked_run.specs.DirectTables.{agent_step, mux_step}
use Rattle.worked_run.specs.Steps.{does, dropped, sends, sent}

-- tcp 80 of a second VIP is served by the second machine at its port 8080; that machine leaves from no VIP
abbrev pub web : Endpoint
web = record { proto = Tcp; port = 80; machines = record { address = other_machine; port = 8080 } ∷ [] }

abbrev pub direct : ConfigParts
direct = record two_each {
  vips = leasing 1087 (machine ∷ [])
      ∷ record { address = ip 192 0 2 20; low = 1024; high = 1031; snat = []; endpoints = web ∷ [] } ∷ [];
}

-- what a mux and an agent will make of a datagram
abbrev pub mux : Mux → Socket → List ℕ → Turn Mux
mux m from bytes = mux_step direct m (Arrived from bytes)

abbrev pub agent : Agent → Socket → List ℕ → Turn Agent
agent a from bytes = agent_step direct a (Arrived from bytes)

-- a packet leaves for the router, or for an agent; a packet is handed to the machine
abbrev pub leaves : Socket → List ℕ → Step
leaves to bytes = sends (sent to bytes ∷ [])

abbrev pub hands : Ip4 → Socket → List ℕ → Step
hands to at bytes = does (Hand to (drop 1 bytes) ∷ []) (sends (sent at bytes ∷ []))

-- ---- who takes part

-- both muxes hold the row of lease 1
abbrev pub first_mux : Mux
first_mux = (mux (opened_mux direct 0 (Boot 1 2 0 1 ∷ [])) (replica_at 0) program).state

abbrev pub second_mux : Mux
second_mux = (mux (opened_mux direct 1 (Boot 1 2 1 1 ∷ [])) (replica_at 0) program).state

-- the opener's agent holds lease 1; the server's agent
abbrev pub opener : Agent
opener = (agent (opened_agent direct 0 (Boot 1 3 0 1 ∷ [])) (replica_at 0) grant).state

abbrev pub server : Agent
server = opened_agent direct 1 (Boot 1 3 1 1 ∷ [])

-- ---- its steps

-- three segments leave, pass the first mux, and are handed
abbrev pub syn_out : Turn Agent
syn_out = agent opener machine_at segments.syn_out

abbrev pub syn_passed : Turn Mux
syn_passed = mux first_mux router_at segments.syn_left

abbrev pub syn_in : Turn Agent
syn_in = agent server mux_at segments.syn_wrapped

abbrev pub ack_out : Turn Agent
ack_out = agent syn_out.state machine_at segments.ack_out

abbrev pub ack_passed : Turn Mux
ack_passed = mux syn_passed.state router_at segments.ack_left

abbrev pub ack_in : Turn Agent
ack_in = agent syn_in.state mux_at segments.ack_wrapped

abbrev pub data_out : Turn Agent
data_out = agent ack_out.state machine_at segments.data_out

abbrev pub data_passed : Turn Mux
data_passed = mux ack_passed.state router_at segments.data_left

abbrev pub data_in : Turn Agent
data_in = agent ack_in.state mux_at segments.data_wrapped

-- the second mux tells both agents
abbrev pub answered : Turn Mux
answered = mux second_mux mux_at redirect_asked

abbrev pub opener_told : Turn Agent
opener_told = agent data_out.state other_mux_at redirect_opener

abbrev pub server_told : Turn Agent
server_told = agent data_in.state other_mux_at redirect_server

-- an answer and a segment go from agent to agent
abbrev pub answer_out : Turn Agent
answer_out = agent server_told.state other_machine_at segments.answer_out

abbrev pub answer_in : Turn Agent
answer_in = agent opener_told.state other_agent_at segments.answer_wrapped

abbrev pub more_out : Turn Agent
more_out = agent answer_in.state machine_at segments.more_out

abbrev pub more_in : Turn Agent
more_in = agent answer_out.state agent_at segments.more_wrapped

-- the connection of the opener
abbrev pub opened : Conn
opened = record {
  vip = vip;
  proto = Tcp;
  port = 1024;
  remote = ip 192 0 2 20;
  rport = 80;
  machine = machine;
  sport = 5000;
}

-- The three segments pass the first mux; with the third it asks the mux of the flow's odd hash, which tells both
-- agents. From then on packets go from agent to agent, and are handed with the time to live with which they left.
pub record DirectLines : Type 0 where
  pub syn_leaves : step_of direct syn_out ≡ does (Open opened ∷ []) (leaves router_at segments.syn_left)
  pub syn_passes : step_of direct syn_passed ≡ leaves other_agent_at segments.syn_wrapped
  pub syn_handed : step_of direct syn_in ≡ hands other_machine other_machine_at segments.syn_handed
  pub ack_leaves : step_of direct ack_out ≡ leaves router_at segments.ack_left
  pub ack_passes : step_of direct ack_passed ≡ leaves other_agent_at segments.ack_wrapped
  pub ack_handed : step_of direct ack_in ≡ hands other_machine other_machine_at segments.ack_handed
  pub data_leaves : step_of direct data_out ≡ leaves router_at segments.data_left
  pub data_passes : step_of direct data_passed
      ≡ sends (sent other_agent_at segments.data_wrapped ∷ sent other_mux_at redirect_asked ∷ [])
  pub data_handed : step_of direct data_in ≡ hands other_machine other_machine_at segments.data_handed
  pub both_told : step_of direct answered
      ≡ sends (sent agent_at redirect_opener ∷ sent other_agent_at redirect_server ∷ [])
  pub opener_takes : step_of direct opener_told ≡ no_step
  pub server_takes : step_of direct server_told ≡ no_step
  pub answer_leaves : step_of direct answer_out ≡ leaves agent_at segments.answer_wrapped
  pub answer_handed : step_of direct answer_in ≡ hands machine machine_at segments.answer_handed
  pub more_leaves : step_of direct more_out ≡ leaves other_agent_at segments.more_wrapped
  pub more_handed : step_of direct more_in ≡ hands other_machine other_machine_at segments.more_handed

-- Beside it: a Redirect from outside, and a packet that an agent wraps as another's machine.
pub record DirectRefused : Type 0 where
  pub outside : step_of direct (agent data_out.state (record { ip = ip 198 51 100 9; port = 7000 }) redirect_opener)
      ≡ dropped NotFromMux
  pub other_machine : step_of direct (agent opener_told.state agent_at segments.answer_wrapped) ≡ dropped BadSender

-- the server's entry, with this peer
abbrev pub entry : Option Ip4 → Connection
entry peer = record {
  vip = ip 192 0 2 20;
  proto = Tcp;
  port = 80;
  remote = vip;
  rport = 1024;
  machine = other_machine;
  sport = 8080;
  n = 1;
  last = 0;
  peer = peer;
}

-- the entries after a wrapped packet of the opener
abbrev pub entries_after : Socket → List ℕ → List Connection
entries_after from bytes = (agent server_told.state from bytes).state.traffic.inbound

-- The peer stays with each segment, with a SYN that comes from an agent, and with a SYN that has an ACK; a SYN alone
-- through a mux clears it, and then the answer leaves for the router. The number stays.
pub record DirectCleared : Type 0 where
  pub told : server_told.state.traffic.inbound ≡ entry (Some machine) ∷ []
  pub segment : entries_after mux_at segments.data_wrapped ≡ entry (Some machine) ∷ []
  pub syn_of_agent : entries_after agent_at segments.syn_wrapped_by_agent ≡ entry (Some machine) ∷ []
  pub syn_ack : entries_after mux_at segments.syn_ack_wrapped ≡ entry (Some machine) ∷ []
  pub syn : entries_after mux_at segments.syn_wrapped ≡ entry None ∷ []
  pub answer : step_of direct
      (agent (agent server_told.state mux_at segments.syn_wrapped).state other_machine_at segments.answer_out)
      ≡ leaves router_at segments.answer_left
