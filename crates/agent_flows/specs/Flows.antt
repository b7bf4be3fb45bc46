-- What the calls of a table make of its list of connections.
use Rattle.std.specs.Prelude.{nat_le, List, [], ◌∷◌, ◌++◌, length, Option, Some, None, if◌then◌else◌}
use Rattle.agent_spec.specs.declared.connection.Connection.{Connection}
use Rattle.agent_spec.specs.Connections.{private_key, closed, most}
use Rattle.agent_flows.specs.declared.opened.Opened.{Opened}
use Rattle.agent_flows.specs.declared.opened.Opened.TheVariants.{Yes, Full}

-- one more, where there is room
abbrev pub opened : List Connection → Connection → List Connection × Opened
opened cs c = if nat_le most (length cs) then (cs, Full) else (cs ++ c ∷ [], Yes)

-- without this connection, if it is one
abbrev pub without : Option Connection → List Connection → List Connection
without None cs = cs
without (Some c) cs = closed (private_key c) cs

-- this connection, if it is one, and then those
abbrev pub first_then : Option Connection → List Connection → List Connection
first_then None cs = cs
first_then (Some c) cs = c ∷ cs
