-- The host agent in the run: what each of its lines says.
use Rattle.std.specs.Prelude.{ℕ, List, [], ◌∷◌, drop, ◌≡◌}
use Rattle.wire_core.specs.Steps.{no_step}
use Rattle.wire_core.specs.declared.act.Act.TheVariants.{Hand, Hold, Open}
use Rattle.wire_core.specs.declared.address.Socket.{Socket}
use Rattle.wire_core.specs.declared.connection.Conn.{Conn}
use Rattle.wire_core.specs.declared.entry.Entry.TheVariants.{Boot}
use Rattle.wire_core.specs.declared.flow.Proto.TheVariants.{Udp}
use Rattle.wire_core.specs.declared.note.Note.TheVariants.{Queued}
use Rattle.vip_config.specs.declared.parts.ConfigParts.{ConfigParts}
use Rattle.node_spec.specs.Turns.{Arrived, Ticked, Turn}
use Rattle.node_spec.specs.Steps.{step_of}
use Rattle.agent_spec.specs.Agent.{Agent, opened_agent}
use Rattle.agent_spec.specs.AgentTable.{agent_step}
use Rattle.worked_run.specs.Configs.{run_config, agent, agent_at, attached, other_attached, ip, vip, machine}
use Rattle.worked_run.specs.Configs.{machine_at, mux_at, replica_at, router_at}
use Rattle.worked_run.specs.Run.{ask, grant, packet_left, packet_out, reply_handed, reply_wrapped}
use Rattle.worked_run.specs.Steps.{sent, sends, does}

-- what an agent makes of a datagram, and of the time
abbrev pub agent_hears : ConfigParts → Agent → Socket → List ℕ → Turn Agent
agent_hears c a from bytes = agent_step c a (Arrived from bytes)

abbrev pub agent_ticks : ConfigParts → Agent → ℕ → Turn Agent
agent_ticks c a now = agent_step c a (Ticked now)

-- an agent has both machines, of which the second leaves from no VIP
abbrev pub shared : ConfigParts
shared = record run_config { agents = agent agent_at (attached ∷ other_attached ∷ []) ∷ [] }

-- agent 0 as it opens in boot 1
abbrev pub opened_first : ConfigParts → Agent
opened_first c = opened_agent c 0 (Boot 1 3 0 1 ∷ [])

-- the machine's packet, the Grant, the reply
abbrev pub holds_packet : Turn Agent
holds_packet = agent_hears run_config (opened_first run_config) machine_at packet_out

abbrev pub gets_range : Turn Agent
gets_range = agent_hears run_config holds_packet.state (replica_at 0) grant

abbrev pub gets_reply : Turn Agent
gets_reply = agent_hears run_config gets_range.state mux_at reply_wrapped

-- the connection of the run
abbrev pub connection : Conn
connection = record {
  vip = vip;
  proto = Udp;
  port = 1024;
  remote = ip 198 51 100 7;
  rport = 53;
  machine = machine;
  sport = 5000;
}

-- The packet is held and a range asked for; with the range a connection opens and the packet leaves; the reply is
-- handed.
pub record AgentLines : Type 0 where
  pub queued : step_of run_config holds_packet
      ≡ record no_step { notes = Queued machine 1 ∷ []; sends = sent (replica_at 0) ask ∷ [] }
  pub granted : step_of run_config gets_range
      ≡ does (Hold 1 ∷ Open connection ∷ []) (sends (sent router_at packet_left ∷ []))
  pub handed : step_of run_config gets_reply
      ≡ does (Hand machine (drop 1 reply_handed) ∷ []) (sends (sent machine_at reply_handed ∷ []))
