-- What is seen of a world: held ranges, connections, rows of muxes, the log and its book.
use Rattle.std.specs.Prelude.{ℕ, if◌then◌else◌, nat_lt, List, [], ◌∷◌, ◌++◌, map, length, drop, fold, Option, Some, None}
use Rattle.std.specs.List.{flat_map}
use Rattle.wire_core.specs.Commands.{LogCommand}
use Rattle.wire_core.specs.declared.address.Ip4.{Ip4}
use Rattle.wire_core.specs.declared.connection.Conn.{Conn}
use Rattle.wire_core.specs.declared.entry.Entry.{Entry}
use Rattle.wire_core.specs.declared.range.Range.{Range}
use Rattle.vip_config.specs.declared.parts.ConfigParts.{ConfigParts}
use Rattle.vip_config.specs.Leases.{lease_rules_of}
use Rattle.lease_spec.specs.Table.{Leases, table}
use Rattle.mux_spec.specs.Mux.{Mux}
use Rattle.mux_spec.specs.declared.row.Kept.{Kept}
use Rattle.agent_spec.specs.Agent.{Agent}
use Rattle.agent_spec.specs.Connections.{conn_of}
use Rattle.agent_spec.specs.declared.held.Held.{Held as HeldRange}
use Rattle.world_spec.specs.declared.views.Held.{Held}
use Rattle.world_spec.specs.declared.views.MuxRow.{MuxRow}
use Rattle.world_spec.specs.Nodes.{Lists, OfManager, OfMux, OfAgent}
use Rattle.world_spec.specs.World.{Site, World}
use Rattle.world_spec.specs.Acts.{learned, log_length}

-- ---- agents

-- a held range with its machine
abbrev pub held_by : HeldRange → Held
held_by h = record { range = h.range; n = h.n; machine = h.machine }

-- the ranges that an agent holds
abbrev pub held_of : Option Lists → List Held
held_of None = []
held_of (Some (OfManager m)) = []
held_of (Some (OfMux m)) = []
held_of (Some (OfAgent a)) = map held_by a.traffic.ranges.held

-- The ranges that the agents that are up hold.
unfoldable pub held : World → List Held
held w = flat_map (λ s. held_of s.up) w.agents

-- the connections of an agent
abbrev pub conns_of : Option Lists → List Conn
conns_of None = []
conns_of (Some (OfManager m)) = []
conns_of (Some (OfMux m)) = []
conns_of (Some (OfAgent a)) = map conn_of a.traffic.conns

-- The connections of the agents that are up.
unfoldable pub conns : World → List Conn
conns w = flat_map (λ s. conns_of s.up) w.agents

-- ---- muxes

-- the row of a range, where it has a machine
abbrev pub row_of : Mux → Range → ℕ → Option Ip4 → List MuxRow
row_of m r n None = []
row_of m r n (Some machine) =
    record { mux = m.index; boot = m.gate.boot; range = r; n = n; machine = machine } ∷ []

-- the rows of a mux
abbrev pub rows_of : Option Lists → List MuxRow
rows_of None = []
rows_of (Some (OfManager m)) = []
rows_of (Some (OfMux m)) = flat_map (λ x. row_of m x.0 x.1.n x.1.machine) m.rows
rows_of (Some (OfAgent a)) = []

-- The rows of the muxes that are up.
unfoldable pub entries : World → List MuxRow
entries w = flat_map (λ s. rows_of s.up) w.muxes

-- ---- the log

-- the first values are those of the disks before; this disk adds those that it has beyond them
abbrev pub log_with : List (List LogCommand) → Site → List (List LogCommand)
log_with values s = values ++ drop (length values) (learned s.entries)

-- The log: of each slot the value that the first disk learned which has one.
unfoldable pub log : World → List (List LogCommand)
log w = fold log_with [] w.replicas

-- the longer log of two, the first of equals
abbrev pub longer : List Entry → List Entry → List Entry
longer es fs = if nat_lt (log_length es) (log_length fs) then fs else es

-- the disk with the longest log, the first of equals
abbrev pub longest_disk : List Site → List Entry
longest_disk ss = fold (λ es s. longer es s.entries) [] ss

-- the table of what a disk learned
abbrev pub book_of : ConfigParts → List Entry → Leases
book_of cfg es = table (lease_rules_of cfg) (learned es)

-- The book: the table of the longest log.
unfoldable pub book : ConfigParts → World → Leases
book cfg w = book_of cfg (longest_disk w.replicas)
