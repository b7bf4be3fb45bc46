-- A node of any role: its lists while it is up, its turn at an input, and its opening.
use Rattle.std.specs.Prelude.{ℕ, ◌+◌, List, [], ◌∷◌, ◌++◌, Option, Some, None}
use Rattle.wire_core.specs.declared.entry.Entry.{Entry}
use Rattle.wire_core.specs.declared.entry.Entry.TheVariants.{Boot}
use Rattle.wire_core.specs.declared.node.NodeId.{NodeId}
use Rattle.wire_core.specs.declared.node.NodeId.TheVariants.{Replica}
use Rattle.wire_core.specs.declared.node.NodeId.TheVariants as node
use Rattle.vip_config.specs.declared.parts.ConfigParts.{ConfigParts}
use Rattle.node_spec.specs.Turns.{Input, Turn, lifted}
use Rattle.node_spec.specs.Boots.{boot_of}
use Rattle.manager_spec.specs.Manager.{Manager, opened_manager}
use Rattle.manager_spec.specs.ManagerTable.{manager_step}
use Rattle.mux_spec.specs.Mux.{Mux, opened_mux}
use Rattle.mux_spec.specs.MuxTable.{mux_step}
use Rattle.agent_spec.specs.Agent.{Agent, opened_agent}
use Rattle.agent_spec.specs.AgentTable.{agent_step}

-- The lists of a node that is up, whatever its role.
pub data Lists : Type 0 where
  OfManager : (manager : Manager) → Lists
  OfMux : (mux : Mux) → Lists
  OfAgent : (agent : Agent) → Lists

-- What an input makes of a node, by its role's table.
abbrev pub node_turn : ConfigParts → Lists → Input → Turn Lists
node_turn cfg (OfManager m) i = lifted OfManager (manager_step cfg m i)
node_turn cfg (OfMux m) i = lifted OfMux (mux_step cfg m i)
node_turn cfg (OfAgent a) i = lifted OfAgent (agent_step cfg a i)

-- ---- entries

-- an entry, where there is one
abbrev pub listed : Option Entry → List Entry
listed None = []
listed (Some e) = e ∷ []

-- 1 for a replica, 2 for a mux, 3 for an agent
abbrev pub role_of : NodeId → ℕ
role_of (Replica i) = 1
role_of (node.Mux i) = 2
role_of (node.Agent i) = 3

-- the number of a node in its role
abbrev pub index_of : NodeId → ℕ
index_of (Replica i) = i
index_of (node.Mux i) = i
index_of (node.Agent i) = i

-- what an opening writes: a boot, one above the greatest on the disk
abbrev pub boot_entry : NodeId → List Entry → Entry
boot_entry x entries = Boot 1 (role_of x) (index_of x) (boot_of entries + 1)

-- the disk of a node after one more opening
abbrev pub booted : NodeId → List Entry → List Entry
booted x entries = entries ++ boot_entry x entries ∷ []

-- What a node is once it has opened its disk.
unfoldable pub opened : ConfigParts → NodeId → List Entry → Lists
opened cfg (Replica i) entries = OfManager (opened_manager cfg i entries)
opened cfg (node.Mux i) entries = OfMux (opened_mux cfg i entries)
opened cfg (node.Agent i) entries = OfAgent (opened_agent cfg i entries)
