-- The first nodes: each opened on an empty disk.
use Rattle.std.specs.Prelude.{◌≡◌, ℕ, zero, suc, true, List, [], ◌∷◌, ◌++◌, length, is_some}
use Rattle.wire_core.specs.declared.node.NodeId.{NodeId}
use Rattle.wire_core.specs.declared.node.NodeId.TheVariants as id
use Rattle.vip_config.specs.Queries.{socket_of}
use Rattle.vip_config.specs.declared.parts.ConfigParts.{ConfigParts}
use Rattle.world_nodes.specs.declared.opening.Kind.{Kind}
use Rattle.world_nodes.specs.declared.opening.Kind.TheVariants.{Replica, Mux, Agent}
use Rattle.world_nodes.specs.Nodes.{NodesState}
use Rattle.world_nodes.specs.Sites.{Opening, SiteState, first_site}

-- the node with this number among those of a role
abbrev pub named : Kind → ℕ → NodeId
named Replica i = id.Replica i
named Mux i = id.Mux i
named Agent i = id.Agent i

-- the first nodes of a role
abbrev pub first_sites : {C : Type 0} → Opening C → ConfigParts → (ℕ → NodeId) → ℕ → List (SiteState C)
first_sites recover cfg node zero = []
first_sites recover cfg node (suc n) = first_sites recover cfg node n ++ first_site recover cfg (node n) ∷ []

abbrev pub first_nodes : {C : Type 0} → Opening C → ConfigParts → NodesState C
first_nodes recover cfg = record {
  replicas = first_sites recover cfg (named Replica) (length cfg.replicas);
  muxes = first_sites recover cfg (named Mux) (length cfg.muxes);
  agents = first_sites recover cfg (named Agent) (length cfg.agents);
}

-- each configured node may be opened
abbrev pub MayOpen : (ConfigParts → NodeId → Type 0) → ConfigParts → Type 0
MayOpen may cfg = (x : NodeId) → is_some (socket_of cfg x) ≡ true → may cfg x
