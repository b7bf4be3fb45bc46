-- A replica's table: which input is which row.
use Rattle.std.specs.Prelude.{ℕ, List}
use Rattle.wire_core.specs.declared.cause.DropCause.{DropCause}
use Rattle.wire_core.specs.declared.cause.DropCause.TheVariants.{WrongRole}
use Rattle.wire_core.specs.declared.node.NodeId.{NodeId}
use Rattle.wire_core.specs.declared.node.NodeId.TheVariants.{Replica, Mux, Agent}
use Rattle.vip_config.specs.declared.parts.ConfigParts.{ConfigParts}
use Rattle.vip_config.specs.declared.who.Who.{Who}
use Rattle.control_msg.specs.declared.message.Message.{Message}
use Rattle.control_msg.specs.declared.message.Message.TheVariants as message
use Rattle.paxos_spec.specs.Votes.{cast}
use Rattle.node_spec.specs.Turns.{Input, Arrived, Ticked, Turn, drop_turn}
use Rattle.node_spec.specs.Datagrams.{heard, by_heard}
use Rattle.manager_spec.specs.Manager.{Manager}
use Rattle.manager_spec.specs.Proposal.{Half, stops, whole}
use Rattle.manager_spec.specs.Leading.{on_prepare, on_promise, on_refuse, on_lead}
use Rattle.manager_spec.specs.Voting.{on_accept, on_accepted, on_chosen, on_fetched}
use Rattle.manager_spec.specs.Clock.{on_tick}
use Rattle.manager_spec.specs.Muxes.{on_hello, on_mux_refuse, on_ack, programmed_by, unprogrammed_by}
use Rattle.manager_spec.specs.Agents.{on_ask, on_return, on_agent_up}

-- a row that only drops the input
abbrev pub refuses : Manager → DropCause → Half
refuses r cause = stops (drop_turn r cause)

-- the messages of replicas
abbrev pub from_replica : ConfigParts → Manager → ℕ → Message → Half
from_replica cfg r from (message.Prepare ballot) = stops (on_prepare cfg r from ballot)
from_replica cfg r from (message.Promise ballot length vote value) =
    stops (on_promise cfg r from ballot length (cast vote value))
from_replica cfg r from (message.Accept ballot slot value) = stops (on_accept cfg r from ballot slot value)
from_replica cfg r from (message.Accepted ballot slot) = on_accepted cfg r from ballot slot
from_replica cfg r from (message.Refuse ballot promised) = stops (on_refuse cfg r ballot promised)
from_replica cfg r from (message.Chosen slot ballot value) = stops (on_chosen cfg r from slot ballot value)
from_replica cfg r from (message.Fetch slot) = stops (on_fetched cfg r from slot)
from_replica cfg r from (message.Lead ballot length) = stops (on_lead cfg r from ballot length)
from_replica cfg r from _ = refuses r WrongRole

-- the messages of muxes
abbrev pub from_mux : ConfigParts → Manager → ℕ → Message → Half
from_mux cfg r mux (message.MuxHello boot epoch) = on_hello cfg r mux boot epoch
from_mux cfg r mux (message.MuxRefuse epoch boot kept) = on_mux_refuse cfg r mux boot kept
from_mux cfg r mux (message.Programmed epoch boot n) = on_ack cfg r programmed_by mux epoch boot n
from_mux cfg r mux (message.Unprogrammed epoch boot n) = on_ack cfg r unprogrammed_by mux epoch boot n
from_mux cfg r mux _ = refuses r WrongRole

-- the messages of agents
abbrev pub from_agent : ConfigParts → Manager → ℕ → Message → Half
from_agent cfg r agent (message.Ask boot machine seq) = on_ask cfg r agent boot machine seq
from_agent cfg r agent (message.Return boot n) = on_return cfg r agent boot n
from_agent cfg r agent (message.AgentUp boot) = on_agent_up cfg r agent boot
from_agent cfg r agent _ = refuses r WrongRole

-- The row of a message, by its sender's role and its kind. A kind of another role is WrongRole.
unfoldable pub manager_hears : ConfigParts → Manager → NodeId → Message → Half
manager_hears cfg r (Replica from) m = from_replica cfg r from m
manager_hears cfg r (Mux from) m = from_mux cfg r from m
manager_hears cfg r (Agent from) m = from_agent cfg r from m

-- a replica takes no packet
abbrev pub manager_takes : Manager → Who → List ℕ → Half
manager_takes r sender packet = refuses r WrongRole

-- The row of an input.
unfoldable pub manager_half : ConfigParts → Manager → Input → Half
manager_half cfg r (Arrived from bytes) =
    by_heard (refuses r) (manager_hears cfg r) (manager_takes r) (heard cfg from bytes)
manager_half cfg r (Ticked now) = on_tick cfg r now

-- What an input makes of a replica: its row, with the proposal where one follows.
unfoldable pub manager_step : ConfigParts → Manager → Input → Turn Manager
manager_step cfg r input = whole cfg (manager_half cfg r input)
