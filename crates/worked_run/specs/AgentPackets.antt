-- Rows of the host agent on packets: which ports they leave through, what is handed, and what isn't.
use Rattle.std.specs.Prelude.{ℕ, List, [], ◌∷◌, drop, length, ◌≡◌}
use Rattle.wire_core.specs.declared.act.Act.TheVariants.{Close, Drop, Hand, Open}
use Rattle.wire_core.specs.declared.cause.DropCause.TheVariants as cause
use Rattle.wire_core.specs.declared.connection.Conn.{Conn}
use Rattle.wire_core.specs.declared.flow.Proto.TheVariants.{Tcp}
use Rattle.wire_core.specs.declared.step.Step.{Step}
use Rattle.config_text.specs.declared.vips.Endpoint.{Endpoint}
use Rattle.vip_config.specs.declared.parts.ConfigParts.{ConfigParts}
use Rattle.node_spec.specs.Turns.{Turn}
use Rattle.node_spec.specs.Steps.{step_of}
use Rattle.agent_spec.specs.declared.order.Redirection.{Redirection}
use Rattle.agent_spec.specs.Agent.{Agent}
use Rattle.agent_spec.specs.Redirects.{on_redirect}
use Rattle.worked_run.specs.Configs.{two_each, ip, leasing, vip, machine, machine_at, other_machine}
use Rattle.worked_run.specs.Configs.{other_machine_at}
use Rattle.worked_run.specs.Configs.{mux_at, other_mux_at, other_agent_at, replica_at, router_at}
use Rattle.worked_run.specs.Run.{grant, hello, packet_left, packet_out, reply_wrapped}
use Rattle.worked_run.specs.Orders.{redirect_opener}
use Rattle.worked_run.specs.Leasing as asks
use Rattle.worked_run.specs.Delivering as packets
use Rattle.worked_run.specs.AgentRun.{agent_hears, agent_ticks, connection, opened_first, shared}
use Rattle.worked_run.specs.Steps.{sent, sends, does, dropped}

-- tcp 80 of the VIP is served by the first machine at its port 8080; the second machine leaves from no VIP
abbrev pub web : Endpoint
web = record { proto = Tcp; port = 80; machines = record { address = machine; port = 8080 } ∷ [] }

abbrev pub serving : ConfigParts
serving = record two_each { vips = record (leasing 1087 (machine ∷ [])) { endpoints = web ∷ [] } ∷ [] }

-- agent 0 with the first range, and agent 1
abbrev pub with_range : Agent
with_range = (agent_hears serving (opened_first serving) (replica_at 0) grant).state

-- its machine sends, mux 0 sends
abbrev pub brings : Agent → List ℕ → Turn Agent
brings a bytes = agent_hears serving a machine_at bytes

abbrev pub gets : Agent → List ℕ → Turn Agent
gets a bytes = agent_hears serving a mux_at bytes

abbrev pub step : Turn Agent → Step
step t = step_of serving t

-- a packet leaves for the router
abbrev pub leaves : List ℕ → Step
leaves bytes = sends (sent router_at bytes ∷ [])

-- a packet is handed to the machine
abbrev pub hands : List ℕ → Step
hands bytes = does (Hand machine (drop 1 bytes) ∷ []) (sends (sent machine_at bytes ∷ []))

-- ---- packets that leave

-- after a first packet, and after one to another remote end
abbrev pub one_open : Agent
one_open = (brings with_range packet_out).state

abbrev pub two_open : Agent
two_open = (brings one_open asks.to_8).state

-- A connection opens through the first port that isn't used to its remote end; a packet of an open one takes it.
pub record Ports : Type 0 where
  pub first : step (brings with_range packet_out) ≡ does (Open connection ∷ []) (leaves packet_left)
  pub kept : step (brings one_open packet_out) ≡ leaves packet_left
  pub other_end : step (brings one_open asks.to_8)
      ≡ does (Open (record connection { remote = ip 198 51 100 8 }) ∷ []) (leaves asks.to_8_left)
  pub next_port : step (brings two_open asks.from_5001)
      ≡ does (Open (record connection { sport = 5001; port = 1025 }) ∷ []) (leaves asks.from_5001_left)

-- A machine's packet comes from its own socket, without fault, from its own address, and leaves from a VIP.
pub record Unsent : Type 0 where
  pub foreign : step (agent_hears serving with_range other_machine_at packet_out) ≡ dropped cause.NotMine
  pub outside : step (agent_hears serving with_range router_at packet_out) ≡ dropped cause.NotMine
  pub replica : step (agent_hears serving with_range (replica_at 0) packet_out) ≡ dropped cause.WrongRole
  pub sum : step (brings with_range asks.bad_sum) ≡ dropped cause.BadSum
  pub source : step (brings with_range asks.other_source) ≡ dropped cause.BadSource

-- ---- packets that are handed

-- A wrapped packet: its outer header, the machine, the sender, its own faults, and whose it is, in this order.
pub record Undelivered : Type 0 where
  pub not_wrapped : step (gets one_open packets.not_wrapped) ≡ dropped cause.NotIpip
  pub foreign : step (gets one_open packets.reply_for_foreign) ≡ dropped cause.NotMine
  pub sender : step (gets one_open packets.reply_from_other) ≡ dropped cause.BadSender
  pub other_mux : step (agent_hears serving one_open other_mux_at reply_wrapped) ≡ dropped cause.BadSender
  pub agent : step (agent_hears serving one_open other_agent_at packets.reply_by_agent) ≡ dropped cause.BadSender
  pub inner : step (gets one_open packets.inner_bad_sum) ≡ dropped cause.BadSum
  pub nobody : step (gets one_open packets.reply_elsewhere) ≡ dropped cause.NoConnection
  pub not_open : step (gets with_range reply_wrapped) ≡ dropped cause.NoConnection

-- its first machine has a connection
abbrev pub shared_open : Agent
shared_open =
    (agent_hears shared
    (agent_hears shared (opened_first shared) (replica_at 0) grant).state
    machine_at
    packet_out).state

-- A reply that is wrapped for another machine than the one that opened the connection.
pub record ForAnother : Type 0 where
  pub wrong_machine : step_of shared (agent_hears shared shared_open mux_at packets.reply_for_other)
      ≡ dropped cause.WrongMachine
  pub no_snat : step_of shared (agent_hears shared (opened_first shared) other_machine_at asks.of_server)
      ≡ dropped cause.NoSnat

-- the TCP connection of the machine, through the first port
abbrev pub opened_tcp : Conn
opened_tcp = record connection { proto = Tcp; rport = 80 }

abbrev pub tcp_open : Agent
tcp_open = (brings with_range packets.tcp_out).state

-- A RST of either side closes the connection, once it has left or was handed.
pub record Resets : Type 0 where
  pub opens : step (brings with_range packets.tcp_out) ≡ does (Open opened_tcp ∷ []) (leaves packets.tcp_left)
  pub out : step (brings tcp_open packets.reset_out) ≡ does (Close opened_tcp ∷ []) (leaves packets.reset_left)
  pub inward : step (gets tcp_open packets.reset_wrapped)
      ≡ does
      (Hand machine (drop 1 packets.reset_handed) ∷ Close opened_tcp ∷ [])
      (sends (sent machine_at packets.reset_handed ∷ []))
  pub closed : step (gets (gets tcp_open packets.reset_wrapped).state packets.reset_wrapped)
      ≡ dropped cause.NoConnection

-- ---- endpoints

-- a client's connection to the endpoint is known
abbrev pub entered : Agent
entered = (gets with_range packets.syn_wrapped).state

-- the machine has a connection of its own with the same ends
abbrev pub taken : Agent
taken = (brings with_range packets.private_out).state

-- A packet to an endpoint is handed to its machine's own port, and the answer leaves from the endpoint; a connection
-- of the machine with the same ends is in the way. An entry leaves after 60 seconds, without an act (the range, which
-- has no connection, was to be given back before).
pub record Endpoints : Type 0 where
  pub first : step (gets with_range packets.syn_wrapped) ≡ hands packets.syn_handed
  pub answered : step (brings entered packets.answer) ≡ leaves packets.answer_left
  pub in_the_way : step (gets taken packets.syn_wrapped) ≡ dropped cause.KeyInUse
  pub in_the_way_leaves : (gets taken packets.syn_wrapped).state ≡ taken
  pub idle : (agent_ticks serving entered 60000).state.traffic.inbound ≡ []
  pub idle_acts : (agent_ticks serving entered 60000).acts ≡ Drop 1 ∷ []
  pub not_idle : length (agent_ticks serving entered 59999).state.traffic.inbound ≡ 1

-- ---- without a mux

-- what a mux tells of the TCP connection, on either side
abbrev pub redirection : ℕ → ℕ → Redirection
redirection side n = record {
  side = side;
  n = n;
  src = vip;
  sport = 1024;
  dst = ip 198 51 100 7;
  dport = 80;
  opener = machine;
  server = other_machine;
}

-- the connection goes to its peer
abbrev pub redirected : Agent
redirected = (on_redirect serving tcp_open 0 (redirection 0 1)).state

-- Not yet: a Redirect isn't taken. What it will do: the opener's packets go to the peer's agent, wrapped, with their
-- time to live; a number that isn't the connection's is stale; one without a connection is for nobody.
pub record Redirects : Type 0 where
  pub not_yet : step (agent_hears serving tcp_open mux_at redirect_opener) ≡ dropped cause.WrongRole
  pub of_replica : step (agent_hears serving tcp_open (replica_at 0) redirect_opener) ≡ dropped cause.NotFromMux
  pub opener : step (brings redirected packets.direct_last_hop)
      ≡ sends (sent other_agent_at packets.direct_last_hop_wrapped ∷ [])
  pub no_hop : step (brings redirected packets.direct_no_hop) ≡ dropped cause.TtlOut
  pub stale : step (on_redirect serving tcp_open 0 (redirection 0 17)) ≡ dropped (cause.StaleLease 1)
  pub nobody : step (on_redirect serving with_range 0 (redirection 0 1)) ≡ dropped cause.NoConnection
  pub server_nobody : step (on_redirect serving tcp_open 0 (redirection 1 1)) ≡ dropped cause.NoConnection
  pub foreign : step (on_redirect serving tcp_open 0 (record (redirection 0 1) { server = ip 10 1 0 9 }))
      ≡ dropped cause.NotMine

-- What isn't for an agent.
pub record Untaken : Type 0 where
  pub of_mux : step (agent_hears serving with_range mux_at grant) ≡ dropped cause.WrongRole
  pub of_agent : step (agent_hears serving with_range other_agent_at grant) ≡ dropped cause.WrongRole
  pub of_router : step (agent_hears serving with_range router_at grant) ≡ dropped cause.NotNode
  pub other_message : step (agent_hears serving with_range (replica_at 0) hello) ≡ dropped cause.WrongRole
  pub no_frame : step (agent_hears serving with_range (replica_at 0) []) ≡ dropped cause.BadFrame
  pub no_message : step (agent_hears serving with_range (replica_at 0) (1 ∷ 1 ∷ [])) ≡ dropped cause.BadMessage
