-- An agent's table: which input is which row.
use Rattle.std.specs.Prelude.{ℕ, List, if◌then◌else◌}
use Rattle.wire_core.specs.declared.cause.DropCause.TheVariants.{WrongRole, NotMine}
use Rattle.wire_core.specs.declared.node.NodeId.{NodeId}
use Rattle.wire_core.specs.declared.node.NodeId.TheVariants as node
use Rattle.wire_core.specs.Ranges.{range_at}
use Rattle.control_msg.specs.declared.message.Message.{Message}
use Rattle.control_msg.specs.declared.message.Message.TheVariants.{Grant, Denied, Returned, AgentKnown, Redirect}
use Rattle.vip_config.specs.declared.parts.ConfigParts.{ConfigParts}
use Rattle.vip_config.specs.declared.who.Who.{Who}
use Rattle.vip_config.specs.declared.who.Who.TheVariants as who
use Rattle.node_spec.specs.Turns.{Input, Arrived, Ticked, Turn, drop_turn}
use Rattle.node_spec.specs.Datagrams.{heard, by_heard}
use Rattle.node_spec.specs.Fastpath.{has_fastpath}
use Rattle.agent_spec.specs.Agent.{Agent}
use Rattle.agent_spec.specs.Packets.{from_machine}
use Rattle.agent_spec.specs.Answers.{on_grant, on_denied, on_returned, on_known}
use Rattle.agent_spec.specs.Redirects.{on_redirect}
use Rattle.agent_spec.specs.Wrapped.{on_wrapped}
use Rattle.agent_spec.specs.Clock.{on_tick}

-- messages of replicas
abbrev pub from_replica : ConfigParts → Agent → ℕ → Message → Turn Agent
from_replica c a from (Grant boot machine seq n vip start) = on_grant c a from boot machine seq n (range_at vip start)
from_replica c a from (Denied boot machine seq reason number) = on_denied a from boot machine seq
from_replica c a from (Returned boot n) = on_returned a from boot n
from_replica c a from (AgentKnown boot) = on_known a from boot
from_replica c a from _ = drop_turn a WrongRole

-- messages of muxes
abbrev pub from_mux : ConfigParts → Agent → ℕ → Message → Turn Agent
from_mux c a from (Redirect side n src sport dst dport opener server) =
    if has_fastpath
    then on_redirect c a from (record {
      side = side;
      n = n;
      src = src;
      sport = sport;
      dst = dst;
      dport = dport;
      opener = opener;
      server = server;
    })
    else drop_turn a WrongRole
from_mux c a from _ = drop_turn a WrongRole

-- A message of a node.
unfoldable pub agent_hears : ConfigParts → Agent → NodeId → Message → Turn Agent
agent_hears c a (node.Replica from) message = from_replica c a from message
agent_hears c a (node.Mux from) message = from_mux c a from message
agent_hears c a (node.Agent from) message = drop_turn a WrongRole

-- A packet: of a machine's own, or wrapped by a mux or an agent.
unfoldable pub agent_takes : ConfigParts → Agent → Who → List ℕ → Turn Agent
agent_takes c a (who.Replica i) bytes = drop_turn a WrongRole
agent_takes c a (who.Mux i) bytes = on_wrapped c a (who.Mux i) bytes
agent_takes c a (who.Agent i) bytes = on_wrapped c a (who.Agent i) bytes
agent_takes c a (who.Machine machine) bytes = from_machine c a machine bytes
agent_takes c a who.Outside bytes = drop_turn a NotMine

-- What an input makes of an agent.
unfoldable pub agent_step : ConfigParts → Agent → Input → Turn Agent
agent_step c a (Arrived from bytes) = by_heard (drop_turn a) (agent_hears c a) (agent_takes c a) (heard c from bytes)
agent_step c a (Ticked now) = on_tick c a now
