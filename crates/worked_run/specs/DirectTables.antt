-- The tables as they will be once connections may do without a mux: the tables of a mux and of an agent, and what these
-- don't do yet.
use Rattle.std.specs.Prelude.{ℕ, ◌&&◌, List, ◌∷◌, slice_get, Option, Some, None, Result, Ok, Err, if◌then◌else◌}
use Rattle.wire_core.specs.declared.flow.FlowKey.{FlowKey}
use Rattle.wire_core.specs.declared.node.NodeId.{NodeId}
use Rattle.wire_core.specs.declared.node.NodeId.TheVariants as node
use Rattle.packet_spec.specs.declared.fault.PacketFault.{PacketFault}
use Rattle.packet_spec.specs.Packets.{read_packet, key_of}
use Rattle.ipip.specs.declared.unwrapping.UnwrapFault.{UnwrapFault}
use Rattle.ipip.specs.Wrapping.{Unwrapped, unwrapped}
use Rattle.control_msg.specs.declared.message.Message.{Message}
use Rattle.control_msg.specs.declared.message.Message.TheVariants.{Redirect, RedirectAsk}
use Rattle.vip_config.specs.declared.parts.ConfigParts.{ConfigParts}
use Rattle.vip_config.specs.declared.who.Who.{Who}
use Rattle.vip_config.specs.declared.who.Who.TheVariants as who
use Rattle.vip_config.specs.Leases.{lease_rules_of}
use Rattle.node_spec.specs.Datagrams.{heard, by_heard}
use Rattle.node_spec.specs.Fastpath.{should_redirect}
use Rattle.node_spec.specs.Sends.{Send}
use Rattle.node_spec.specs.Turns.{Input, Arrived, Ticked, Turn, also, drop_turn, lifted, says}
use Rattle.mux_spec.specs.declared.flow.Seen.{Seen}
use Rattle.mux_spec.specs.declared.verdict.RedirectAsk.{RedirectAsk as Question}
use Rattle.mux_spec.specs.Flows.{Flows, flow_in}
use Rattle.mux_spec.specs.Mux.{Mux, on_tick as mux_on_tick}
use Rattle.mux_spec.specs.MuxTable.{mux_hears as mux_hears_now}
use Rattle.mux_spec.specs.Packets.{ask_of, asks, on_packet}
use Rattle.mux_spec.specs.Redirects.{on_redirect_ask}
use Rattle.agent_spec.specs.Agent.{Agent, is_own, with_traffic}
use Rattle.agent_spec.specs.AgentTable.{agent_hears as agent_hears_now, agent_takes as agent_takes_now}
use Rattle.agent_spec.specs.Clock.{on_tick as agent_on_tick}
use Rattle.agent_spec.specs.Redirects.{on_redirect}
use Rattle.agent_spec.specs.Wrapped.{has_machine, inner_as}

-- ---- a mux

-- what is kept of a flow, in either list
abbrev pub seen_of : FlowKey → Flows → Option Seen
seen_of k t = or_else (flow_in k t.trusted) (flow_in k t.untrusted)
  where
    or_else : Option Seen → Option Seen → Option Seen
    or_else None second = second
    or_else (Some s) second = Some s

-- the question at its third packet
abbrev pub question : ConfigParts → FlowKey → Option Seen → Option Question
question c k None = None
question c k (Some s) = if should_redirect k s.count (lease_rules_of c) then Some (ask_of k s.machine) else None

-- it follows a packet that was sent on
abbrev pub and_asks : ConfigParts → Result (List ℕ) PacketFault → Turn Mux → List Send → Turn Mux
and_asks c (Ok p) t (s ∷ ss) = also t (λ m. says m (asks c (question c (key_of p) (seen_of (key_of p) m.flows))))
and_asks c r t ss = t

abbrev pub mux_takes : ConfigParts → Mux → Who → List ℕ → Turn Mux
mux_takes c m sender bytes =
    and_asks c (read_packet bytes) (on_packet c m sender bytes) (on_packet c m sender bytes).sends

-- a question of a mux is answered
abbrev pub mux_hears : ConfigParts → Mux → NodeId → Message → Turn Mux
mux_hears c m (node.Mux from) (RedirectAsk src sport dst dport machine) =
    on_redirect_ask c m (record { src = src; sport = sport; dst = dst; dport = dport; machine = machine })
mux_hears c m sender message = mux_hears_now c m sender message

-- What an input will make of a mux.
abbrev pub mux_step : ConfigParts → Mux → Input → Turn Mux
mux_step c m (Arrived from bytes) = by_heard (drop_turn m) (mux_hears c m) (mux_takes c m) (heard c from bytes)
mux_step c m (Ticked now) = mux_on_tick c m now

-- ---- an agent

-- an agent may wrap for its own machines
abbrev pub of_agent : ConfigParts → Agent → ℕ → List ℕ → Result Unwrapped UnwrapFault → Turn Agent
of_agent c a i bytes (Err fault) = agent_takes_now c a (who.Agent i) bytes
of_agent c a i bytes (Ok u) =
    if is_own a.hosts u.outer_dst && has_machine u.outer_src (slice_get c.agents i)
    then lifted (with_traffic a) (inner_as c a.traffic (who.Agent i) u.outer_dst (read_packet u.bytes))
    else agent_takes_now c a (who.Agent i) bytes

abbrev pub agent_takes : ConfigParts → Agent → Who → List ℕ → Turn Agent
agent_takes c a (who.Agent i) bytes = of_agent c a i bytes (unwrapped bytes)
agent_takes c a sender bytes = agent_takes_now c a sender bytes

-- a Redirect of a mux is taken
abbrev pub agent_hears : ConfigParts → Agent → NodeId → Message → Turn Agent
agent_hears c a (node.Mux from) (Redirect side n src sport dst dport opener server) =
    on_redirect c a from (record {
      side = side;
      n = n;
      src = src;
      sport = sport;
      dst = dst;
      dport = dport;
      opener = opener;
      server = server;
    })
agent_hears c a sender message = agent_hears_now c a sender message

-- What an input will make of an agent.
abbrev pub agent_step : ConfigParts → Agent → Input → Turn Agent
agent_step c a (Arrived from bytes) = by_heard (drop_turn a) (agent_hears c a) (agent_takes c a) (heard c from bytes)
agent_step c a (Ticked now) = agent_on_tick c a now
