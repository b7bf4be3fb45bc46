-- The names of a node's two disks.
use Rattle.std.specs.Prelude.{ℕ, List, ◌++◌, codes}
use Rattle.std.specs.Fmt.{decimal}
use Rattle.wire_core.specs.declared.node.NodeId.{NodeId}
use Rattle.wire_core.specs.declared.node.NodeId.TheVariants.{Replica, Mux, Agent}

-- the role and the number among those of the role
abbrev pub node_name : NodeId → List ℕ
node_name (Replica i) = codes "replica-" ++ decimal i
node_name (Mux i) = codes "mux-" ++ decimal i
node_name (Agent i) = codes "agent-" ++ decimal i

abbrev pub first_name : NodeId → List ℕ
first_name who = node_name who ++ codes "-a"

abbrev pub second_name : NodeId → List ℕ
second_name who = node_name who ++ codes "-b"
