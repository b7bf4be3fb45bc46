-- What a call changes in one connection.
use Rattle.std.specs.Prelude.{Option, Some, None}
use Rattle.agent_spec.specs.declared.connection.Connection.{Connection}
use Rattle.agent_spec.specs.Connections.{at_time, with_peer}
use Rattle.agent_spec.specs.Wrapped.{met_again}
use Rattle.agent_flows.specs.declared.change.Change.{Change}
use Rattle.agent_flows.specs.declared.change.Change.TheVariants.{Used, Peer, Again}

-- the connection after a change
abbrev pub made : Change → Connection → Connection
made (Used now) c = at_time now c
made (Peer peer n) c = with_peer peer n c
made (Again now clear) c = met_again now clear c
