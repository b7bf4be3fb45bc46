-- Rows of the host agent on what is used and what ends: connections, inbound entries, peers.
use Rattle.std.specs.Prelude.{ℕ, List, [], ◌∷◌, drop, length, Some, None, ◌≡◌}
use Rattle.wire_core.specs.declared.act.Act.TheVariants.{Close, Hand, Open}
use Rattle.wire_core.specs.declared.cause.DropCause.TheVariants as cause
use Rattle.wire_core.specs.declared.connection.Conn.{Conn}
use Rattle.wire_core.specs.declared.flow.Proto.TheVariants.{Tcp}
use Rattle.wire_core.specs.declared.step.Step.{Step}
use Rattle.config_text.specs.declared.vips.Endpoint.{Endpoint}
use Rattle.vip_config.specs.declared.parts.ConfigParts.{ConfigParts}
use Rattle.node_spec.specs.Turns.{Turn}
use Rattle.node_spec.specs.Steps.{step_of}
use Rattle.agent_spec.specs.declared.connection.Connection.{Connection}
use Rattle.agent_spec.specs.declared.order.Redirection.{Redirection}
use Rattle.agent_spec.specs.Agent.{Agent}
use Rattle.agent_spec.specs.Redirects.{on_redirect}
use Rattle.worked_run.specs.Configs.{ip, leasing, vip, machine, mux_at, other_agent_at, other_machine}
use Rattle.worked_run.specs.Configs.{other_machine_at}
use Rattle.worked_run.specs.Run.{packet_left, packet_out, reply_wrapped}
use Rattle.worked_run.specs.Leasing.{up_1}
use Rattle.worked_run.specs.Delivering as packets
use Rattle.worked_run.specs.AgentRun.{agent_hears, agent_ticks, connection, opened_first, shared}
use Rattle.worked_run.specs.AgentPackets.{brings, entered, gets, leaves, one_open, opened_tcp, redirected, redirection}
use Rattle.worked_run.specs.AgentPackets.{serving, step, tcp_open, two_open, with_range}
use Rattle.worked_run.specs.Steps.{sent, all_five, to_each, sends, does, dropped}

-- the agent at this time
abbrev pub at_time : ℕ → Agent → Turn Agent
at_time now a = agent_ticks serving a now

-- what is said at each tick
abbrev pub up : Step
up = sends (to_each all_five up_1)

-- ---- connections

-- the second of the two connections
abbrev pub to_8 : Conn
to_8 = record connection { remote = ip 198 51 100 8 }

-- at 30000 the first is used, by a packet that leaves or by its reply
abbrev pub used_out : Agent
used_out = (brings (at_time 30000 two_open).state packet_out).state

abbrev pub used_in : Agent
used_in = (gets (at_time 30000 two_open).state reply_wrapped).state

-- a TCP connection and one of UDP, and the first is reset
abbrev pub one_closed : Agent
one_closed = (brings (brings tcp_open packet_out).state packets.reset_out).state

-- Idle connections close, first opened first; a use of one is of it alone. One that closes leaves the others, and their
-- range stays in use. A port may be used to one remote end once by each protocol.
pub record Uses : Type 0 where
  pub both_idle : step (at_time 60000 two_open) ≡ does (Close connection ∷ Close to_8 ∷ []) up
  pub used_out : step (at_time 60000 used_out) ≡ does (Close to_8 ∷ []) up
  pub used_in : step (at_time 60000 used_in) ≡ does (Close to_8 ∷ []) up
  pub later : step (at_time 79999 (brings (at_time 20000 with_range).state packet_out).state) ≡ up
  pub other_stays : step (brings one_closed packet_out) ≡ leaves packet_left
  pub range_in_use : step (at_time 30000 one_closed) ≡ up
  pub other_protocol : step (brings tcp_open packets.udp_to_80)
      ≡ does (Open (record connection { rport = 80 }) ∷ []) (leaves packets.udp_to_80_left)
  pub same_protocol : step (brings tcp_open packets.tcp_from_5001)
      ≡ does (Open (record opened_tcp { port = 1025; sport = 5001 }) ∷ []) (leaves packets.tcp_from_5001_left)

-- ---- inbound entries

-- the entry of the client
abbrev pub entry : Connection
entry = record {
  vip = vip;
  proto = Tcp;
  port = 80;
  remote = ip 198 51 100 9;
  rport = 6000;
  machine = machine;
  sport = 8080;
  n = 0;
  last = 0;
  peer = None;
}

-- how many entries are left at this time
abbrev pub left_at : ℕ → Agent → ℕ
left_at now a = length (at_time now a).state.traffic.inbound

-- An entry is used by a packet of its client, and by one of its machine; a reset by its machine leaves, and closes
-- nothing. Entries stand in the order in which they were made.
pub record Entries : Type 0 where
  pub made : entered.traffic.inbound ≡ entry ∷ []
  pub second : (gets entered packets.syn_6001_wrapped).state.traffic.inbound
      ≡ entry ∷ record entry { rport = 6001 } ∷ []
  pub answered : left_at 60000 (brings (at_time 30000 entered).state packets.answer).state ≡ 1
  pub used : left_at 60000 (gets (at_time 30000 entered).state packets.syn_wrapped).state ≡ 1
  pub later : left_at 79999 (gets (at_time 20000 with_range).state packets.syn_wrapped).state ≡ 1
  pub reset : step (brings entered packets.answer_reset) ≡ leaves packets.answer_reset_left
  pub reset_leaves : (brings entered packets.answer_reset).state ≡ entered

-- tcp 80 is served by both machines of an agent, each at its own port
abbrev pub both_web : Endpoint
both_web = record {
  proto = Tcp;
  port = 80;
  machines = record { address = machine; port = 8080 } ∷ record { address = other_machine; port = 8081 } ∷ [];
}

abbrev pub both_serve : ConfigParts
both_serve = record shared { vips = record (leasing 1087 (machine ∷ [])) { endpoints = both_web ∷ [] } ∷ [] }

-- the client's packet comes for the first machine, and then for the second
abbrev pub moves : Turn Agent
moves = agent_hears both_serve
    (agent_hears both_serve (opened_first both_serve) mux_at packets.syn_wrapped).state
    mux_at
    packets.syn_for_other

-- A packet that is wrapped for another machine than the entry's is handed there, and its entry takes the other's place.
pub record Moves : Type 0 where
  pub handed : step_of both_serve moves
      ≡ does
      (Hand other_machine (drop 1 packets.syn_handed_other) ∷ [])
      (sends (sent other_machine_at packets.syn_handed_other ∷ []))
  pub one_entry : moves.state.traffic.inbound ≡ record entry { machine = other_machine; sport = 8081 } ∷ []

-- Of two faults the first test decides: the machine, the sender, the packet.
pub record FirstFault : Type 0 where
  pub machine : step (gets one_open packets.foreign_from_other) ≡ dropped cause.NotMine
  pub sender : step (gets one_open packets.bad_sum_from_other) ≡ dropped cause.BadSender

-- ---- peers

-- what a mux tells of the client's entry
abbrev pub of_entry : ℕ → Redirection
of_entry n = record {
  side = 1;
  n = n;
  src = ip 198 51 100 9;
  sport = 6000;
  dst = vip;
  dport = 80;
  opener = other_machine;
  server = machine;
}

-- the entry has a peer by redirect 3
abbrev pub entry_told : Turn Agent
entry_told = on_redirect serving entered 0 (of_entry 3)

-- A reset that left for a peer closes the connection, and one that can't be wrapped doesn't; the connection was used
-- all the same. What is told must be of the machine that has the connection or the entry; of an entry the greatest
-- number counts.
pub record Peers : Type 0 where
  pub reset : step (brings redirected packets.reset_out)
      ≡ does (Close opened_tcp ∷ []) (sends (sent other_agent_at packets.reset_to_peer ∷ []))
  pub reset_no_hop : step (brings redirected packets.reset_no_hop) ≡ dropped cause.TtlOut
  pub no_hop_uses : step (at_time 60000 (brings (at_time 30000 redirected).state packets.direct_no_hop).state) ≡ up
  pub foreign : step (on_redirect serving tcp_open 0 (record (redirection 0 1) { opener = ip 10 1 0 9 }))
      ≡ dropped cause.NotMine
  pub other_opener : step (on_redirect serving tcp_open 0 (record (redirection 0 1) { opener = other_machine }))
      ≡ dropped cause.NoConnection
  pub entry_takes : entry_told.state.traffic.inbound ≡ record entry { n = 3; peer = Some other_machine } ∷ []
  pub entry_again : (on_redirect serving entry_told.state 0 (of_entry 3)).state ≡ entry_told.state
  pub entry_stale : step (on_redirect serving entry_told.state 0 (of_entry 2)) ≡ dropped (cause.StaleLease 3)
  pub other_server : step (on_redirect serving entered 0 (record (of_entry 3) { server = other_machine }))
      ≡ dropped cause.NoConnection
