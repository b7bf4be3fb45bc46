-- All nodes of a world, by their roles.
use Rattle.std.specs.Prelude.{ℕ, max, Bool, false, if◌then◌else◌, nat_lt, List, [], map, length, get_or, set, fold, Option, None}
use Rattle.wire_core.specs.declared.node.NodeId.{NodeId}
use Rattle.wire_core.specs.declared.node.NodeId.TheVariants.{Replica, Mux, Agent}
use Rattle.vip_config.specs.declared.parts.ConfigParts.{ConfigParts}
use Rattle.node_spec.specs.Turns.{Input}
use Rattle.world_nodes.specs.Disks.{ArePlaces, site_of}
use Rattle.world_nodes.specs.Sites.{Deciding, Opening, SiteState, site_crash, site_cut, site_cut_restart, site_restart, site_step}
use Rattle.world_nodes.specs.declared.nodes.Nodes.{Nodes}
use Rattle.world_nodes.specs.declared.stepped.Stepped.{Stepped}

-- The nodes of each role by their numbers.
pub record NodesState (C : Type 0) : Type 0 where
  pub replicas : List (SiteState C)
  pub muxes : List (SiteState C)
  pub agents : List (SiteState C)

-- ---- a node of a list

-- what is read past the end
abbrev pub nobody : {C : Type 0} → SiteState C
nobody = record { entries = []; learned = 0; up = None }

abbrev pub site_at : {C : Type 0} → List (SiteState C) → ℕ → SiteState C
site_at ss i = get_or ss i nobody

-- the list with the node that is left, and what it answers
abbrev pub put_at : {C A : Type 0} → List (SiteState C) → ℕ → SiteState C × A → List (SiteState C) × A
put_at ss i r = (set ss i r.0, r.1)

abbrev pub step_at : {C : Type 0} → Deciding C → List (SiteState C) → ℕ → Input → List (SiteState C) × Option Stepped
step_at step ss i input =
    if nat_lt i (length ss) then put_at ss i (site_step step (site_at ss i) input) else (ss, None)

abbrev pub crash_at : {C : Type 0} → List (SiteState C) → ℕ → List (SiteState C) × Bool
crash_at ss i = if nat_lt i (length ss) then put_at ss i (site_crash (site_at ss i)) else (ss, false)

abbrev pub restart_at : {C : Type 0} → Opening C → ConfigParts → NodeId → List (SiteState C) → ℕ
    → List (SiteState C) × Bool
restart_at recover cfg x ss i =
    if nat_lt i (length ss) then put_at ss i (site_restart recover cfg x (site_at ss i)) else (ss, false)

abbrev pub cut_at : {C : Type 0} → Deciding C → List (SiteState C) → ℕ → Input → Bool
    → List (SiteState C) × Option Stepped
cut_at step ss i input keep =
    if nat_lt i (length ss) then put_at ss i (site_cut step (site_at ss i) input keep) else (ss, None)

abbrev pub cut_restart_at : {C : Type 0} → Opening C → ConfigParts → NodeId → List (SiteState C) → ℕ → Bool
    → List (SiteState C) × Bool
cut_restart_at recover cfg x ss i keep =
    if nat_lt i (length ss) then put_at ss i (site_cut_restart recover cfg x (site_at ss i) keep) else (ss, false)

-- ---- a node by its name

abbrev pub with_replicas : {C A : Type 0} → NodesState C → List (SiteState C) × A → NodesState C × A
with_replicas n r = (record n { replicas = r.0 }, r.1)

abbrev pub with_muxes : {C A : Type 0} → NodesState C → List (SiteState C) × A → NodesState C × A
with_muxes n r = (record n { muxes = r.0 }, r.1)

abbrev pub with_agents : {C A : Type 0} → NodesState C → List (SiteState C) × A → NodesState C × A
with_agents n r = (record n { agents = r.0 }, r.1)

-- An input to a node. None where it is down or isn't there.
abbrev pub step_node : {C : Type 0} → Deciding C → NodesState C → NodeId → Input → NodesState C × Option Stepped
step_node step n (Replica i) input = with_replicas n (step_at step n.replicas i input)
step_node step n (Mux i) input = with_muxes n (step_at step n.muxes i input)
step_node step n (Agent i) input = with_agents n (step_at step n.agents i input)

-- A crash; and whether the node was up.
abbrev pub crash_node : {C : Type 0} → NodesState C → NodeId → NodesState C × Bool
crash_node n (Replica i) = with_replicas n (crash_at n.replicas i)
crash_node n (Mux i) = with_muxes n (crash_at n.muxes i)
crash_node n (Agent i) = with_agents n (crash_at n.agents i)

-- An opening; and whether the node was down.
abbrev pub restart_node : {C : Type 0} → Opening C → ConfigParts → NodesState C → NodeId → NodesState C × Bool
restart_node recover cfg n (Replica i) = with_replicas n (restart_at recover cfg (Replica i) n.replicas i)
restart_node recover cfg n (Mux i) = with_muxes n (restart_at recover cfg (Mux i) n.muxes i)
restart_node recover cfg n (Agent i) = with_agents n (restart_at recover cfg (Agent i) n.agents i)

-- A step that a crash cuts short.
abbrev pub cut_node : {C : Type 0} → Deciding C → NodesState C → NodeId → Input → Bool → NodesState C × Option Stepped
cut_node step n (Replica i) input keep = with_replicas n (cut_at step n.replicas i input keep)
cut_node step n (Mux i) input keep = with_muxes n (cut_at step n.muxes i input keep)
cut_node step n (Agent i) input keep = with_agents n (cut_at step n.agents i input keep)

-- An opening that a crash cuts short.
abbrev pub cut_restart_node : {C : Type 0} → Opening C → ConfigParts → NodesState C → NodeId → Bool
    → NodesState C × Bool
cut_restart_node recover cfg n (Replica i) keep =
    with_replicas n (cut_restart_at recover cfg (Replica i) n.replicas i keep)
cut_restart_node recover cfg n (Mux i) keep = with_muxes n (cut_restart_at recover cfg (Mux i) n.muxes i keep)
cut_restart_node recover cfg n (Agent i) keep = with_agents n (cut_restart_at recover cfg (Agent i) n.agents i keep)

-- a node that may not be there
abbrev pub node_at : {C : Type 0} → NodesState C → NodeId → SiteState C
node_at n (Replica i) = site_at n.replicas i
node_at n (Mux i) = site_at n.muxes i
node_at n (Agent i) = site_at n.agents i

-- ---- all of them

-- the greater log
abbrev pub longer : {C : Type 0} → ℕ → SiteState C → ℕ
longer n s = max n s.learned

-- The greatest length of a replica's log.
abbrev pub longest : {C : Type 0} → NodesState C → ℕ
longest n = fold longer 0 n.replicas

-- ---- as the code keeps them

abbrev pub nodes_of : {C : Type 0} → Nodes C → NodesState C
nodes_of n = record {
  replicas = map site_of n.replicas.items;
  muxes = map site_of n.muxes.items;
  agents = map site_of n.agents.items;
}

-- Each may be used, up or down.
pub record AreNodes {C : Type 0} (n : Nodes C) : Type 0 where
  pub replicas : ArePlaces n.replicas.items
  pub muxes : ArePlaces n.muxes.items
  pub agents : ArePlaces n.agents.items
