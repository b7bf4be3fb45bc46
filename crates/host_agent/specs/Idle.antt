-- What is idle leaves.
use Rattle.std.specs.Prelude.{ℕ, Bool, false, List, [], ◌∷◌, ◌++◌, map, filter, not, Option, Some, None, slice_get}
use Rattle.wire_core.specs.declared.act.Act.{Act}
use Rattle.wire_core.specs.declared.act.Act.TheVariants.{Close, Drop}
use Rattle.wire_core.specs.declared.step.Step.{Step}
use Rattle.agent_spec.specs.declared.connection.Connection.{Connection}
use Rattle.agent_spec.specs.Agent.{Host, Traffic}
use Rattle.agent_spec.specs.Connections.{conn_of, is_idle}
use Rattle.agent_ports.specs.Ports.{PortsState, with_closed}

-- with so many acts more
abbrev pub with_acts : List Act → Step → Step
with_acts acts s = record s { acts = s.acts ++ acts }

-- the acts of connections that close
abbrev pub closings : List Connection → List Act
closings cs = map (λ (c : Connection). Close (conn_of c)) cs

-- the acts of ranges that are given back
abbrev pub drops : List ℕ → List Act
drops ns = map (λ n. Drop n) ns

-- these connections close, one after the other
abbrev pub closed_each : ℕ → List Connection → PortsState → PortsState
closed_each now [] p = p
closed_each now (c ∷ cs) p = closed_each now cs (with_closed now c p)

-- the ranges and connections of an agent
abbrev pub ports_in : Traffic → PortsState
ports_in t = record { ranges = t.ranges; conns = t.conns }

-- with these instead
abbrev pub over : Traffic → PortsState → Traffic
over t p = record t { ranges = p.ranges; conns = p.conns }

-- without the inbound entries that are idle for so long
abbrev pub without_idle : ℕ → Traffic → Traffic
without_idle idle t = record t { inbound = filter (λ x. not (is_idle t.time idle x)) t.inbound }
