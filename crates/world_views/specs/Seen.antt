-- What is seen of nodes by what decides in them, while they are up.
use Rattle.std.specs.Prelude.{ℕ, zero, suc, List, [], ◌++◌, map, Option, Some, None}
use Rattle.std.specs.List.{flat_map}
use Rattle.agent_spec.specs.declared.connection.Connection.{Connection}
use Rattle.node_roles.specs.declared.role.Role.{Role}
use Rattle.node_roles.specs.declared.role.Role.TheVariants.{Replica, Mux, Agent}
use Rattle.mux_spec.specs.Mux.{Mux as MuxLists}
use Rattle.world_nodes.specs.Nodes.{site_at}
use Rattle.world_nodes.specs.Sites.{SiteState}
use Rattle.world_spec.specs.Views.{held_by, row_of}
use Rattle.world_spec.specs.declared.views.Held.{Held}
use Rattle.world_spec.specs.declared.views.MuxRow.{MuxRow}

-- the ranges of an agent
abbrev pub held_in : Option Role → List Held
held_in None = []
held_in (Some (Replica r)) = []
held_in (Some (Mux m)) = []
held_in (Some (Agent a)) = map held_by a.lists.traffic.ranges.held

-- the connections of an agent
abbrev pub live_in : Option Role → List Connection
live_in None = []
live_in (Some (Replica r)) = []
live_in (Some (Mux m)) = []
live_in (Some (Agent a)) = a.lists.traffic.conns

-- the rows of a mux that have a machine
abbrev pub all_rows : MuxLists → List MuxRow
all_rows m = flat_map (λ x. row_of m x.0 x.1.n x.1.machine) m.rows

abbrev pub rows_in : Option Role → List MuxRow
rows_in None = []
rows_in (Some (Replica r)) = []
rows_in (Some (Mux m)) = all_rows m.lists
rows_in (Some (Agent a)) = []

-- what is seen of the first n nodes of a list, one after the other
abbrev pub seen : {A : Type 0} → (Option Role → List A) → List (SiteState Role) → ℕ → List A
seen see ss zero = []
seen see ss (suc n) = seen see ss n ++ see (site_at ss n).up
