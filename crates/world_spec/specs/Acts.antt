-- Which acts of a turn are acts of the world: a replica's only where the greatest log grows.
use Rattle.std.specs.Prelude.{ℕ, ◌+◌, max, if◌then◌else◌, nat_lt, List, [], ◌∷◌, ◌++◌}
use Rattle.wire_core.specs.Commands.{LogCommand}
use Rattle.wire_core.specs.declared.act.Act.{Act}
use Rattle.wire_core.specs.declared.act.Act.TheVariants.{Lose}
use Rattle.wire_core.specs.declared.entry.Entry.{Entry}
use Rattle.wire_core.specs.declared.entry.Entry.TheVariants.{Learn}
use Rattle.wire_core.specs.declared.node.NodeId.{NodeId}
use Rattle.wire_core.specs.declared.node.NodeId.TheVariants.{Replica, Mux, Agent}
use Rattle.node_spec.specs.Turns.{Turn}
use Rattle.world_spec.specs.Nodes.{Lists, listed}
use Rattle.world_spec.specs.World.{Site, World, disk}

-- the value that an entry learns
abbrev pub learned_by : Entry → List (List LogCommand)
learned_by (Learn ballot value) = value ∷ []
learned_by _ = []

-- the values that a disk learned, in order: its log
unfoldable pub learned : List Entry → List (List LogCommand)
learned [] = []
learned (e ∷ es) = learned_by e ++ learned es

-- the length of a disk's log
abbrev pub log_length : List Entry → ℕ
log_length [] = 0
log_length (Learn ballot value ∷ es) = log_length es + 1
log_length (_ ∷ es) = log_length es

-- the greatest length of a log
abbrev pub longest : List Site → ℕ
longest [] = 0
longest (s ∷ ss) = max (log_length s.entries) (longest ss)

-- the acts of what a replica learned, where no log of the world was as long
abbrev pub log_acts : World → NodeId → Turn Lists → List Act
log_acts w (Replica i) t =
    if nat_lt (longest w.replicas) (log_length (disk w (Replica i) ++ listed t.entry)) then t.acts else []
log_acts w (Mux i) t = []
log_acts w (Agent i) t = []

-- the acts of a whole turn
abbrev pub turn_acts : World → NodeId → Turn Lists → List Act
turn_acts w (Replica i) t = log_acts w (Replica i) t
turn_acts w (Mux i) t = t.acts
turn_acts w (Agent i) t = t.acts

-- an agent that goes down loses what it held
abbrev pub loss : NodeId → List Act
loss (Agent i) = Lose i ∷ []
loss (Mux i) = []
loss (Replica i) = []
