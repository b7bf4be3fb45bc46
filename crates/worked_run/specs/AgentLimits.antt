-- Rows of the host agent at its limits: lists that are full, and a packet that is too long to wrap.
use Rattle.std.specs.Prelude.{ℕ, zero, suc, List, [], ◌∷◌, length, None, ◌≡◌}
use Rattle.wire_core.specs.declared.act.Act.TheVariants.{Open}
use Rattle.wire_core.specs.declared.cause.DropCause.TheVariants.{TableFull, TooLong}
use Rattle.wire_core.specs.declared.flow.Proto.TheVariants.{Tcp, Udp}
use Rattle.agent_spec.specs.declared.connection.Connection.{Connection}
use Rattle.agent_spec.specs.Agent.{Agent}
use Rattle.worked_run.specs.AgentPackets.{brings, gets, hands, leaves, redirected, step, tcp_open, with_range}
use Rattle.worked_run.specs.AgentRun.{connection}
use Rattle.worked_run.specs.Configs.{ip, machine, vip}
use Rattle.worked_run.specs.Delivering as packets
use Rattle.worked_run.specs.Long as long
use Rattle.worked_run.specs.Run.{packet_left, packet_out}
use Rattle.worked_run.specs.Steps.{does, dropped}

-- a connection to another remote end, by its port
abbrev pub connection_to : ℕ → Connection
connection_to rport = record {
  vip = vip;
  proto = Udp;
  port = 1024;
  remote = ip 198 51 100 8;
  rport = rport;
  machine = machine;
  sport = 5000;
  n = 1;
  last = 0;
  peer = None;
}

-- an inbound entry of another client, by its port
abbrev pub entry_of : ℕ → Connection
entry_of rport = record {
  vip = vip;
  proto = Tcp;
  port = 80;
  remote = ip 198 51 100 8;
  rport = rport;
  machine = machine;
  sport = 8080;
  n = 0;
  last = 0;
  peer = None;
}

-- so many of them
abbrev pub each_port : (ℕ → Connection) → ℕ → List Connection
each_port f zero = []
each_port f (suc n) = f n ∷ each_port f n

-- the agent with so many connections, and with so many inbound entries
abbrev pub with_conns : ℕ → Agent
with_conns n = record with_range { traffic = record with_range.traffic { conns = each_port connection_to n } }

abbrev pub with_entries : ℕ → Agent
with_entries n = record with_range { traffic = record with_range.traffic { inbound = each_port entry_of n } }

-- 65,536 connections and 65,536 inbound entries are kept, and no more.
pub record TablesFull : Type 0 where
  pub conns : step (brings (with_conns 65536) packet_out) ≡ dropped TableFull
  pub conns_leave : (brings (with_conns 65536) packet_out).state ≡ with_conns 65536
  pub one_more : step (brings (with_conns 65535) packet_out) ≡ does (Open connection ∷ []) (leaves packet_left)
  pub entries : step (gets (with_entries 65536) packets.syn_wrapped) ≡ dropped TableFull
  pub one_more_entry : step (gets (with_entries 65535) packets.syn_wrapped) ≡ hands packets.syn_handed
  pub as_many : length (gets (with_entries 65535) packets.syn_wrapped).state.traffic.inbound ≡ 65536

-- A packet of 65,001 bytes leaves for the router, but isn't wrapped to a peer.
pub record LongPackets : Type 0 where
  pub to_router : step (brings tcp_open long.segment_too_long) ≡ leaves long.segment_too_long_left
  pub to_peer : step (brings redirected long.segment_too_long) ≡ dropped TooLong
