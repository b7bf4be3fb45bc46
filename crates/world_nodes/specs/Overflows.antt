-- When a node's journal has no room for what a step or an opening writes.
use Rattle.std.specs.Prelude.{◌≡◌, ℕ, ◌+◌, Bool, if◌then◌else◌, nat_lt, List, length, Result, Ok, Err, Option, Some, None, ⊤}
use Rattle.wire_core.specs.Entries.{entry_bytes}
use Rattle.wire_core.specs.declared.entry.Entry.{Entry}
use Rattle.wire_core.specs.declared.node.NodeId.{NodeId}
use Rattle.wire_core.specs.declared.node.NodeId.TheVariants.{Replica, Mux, Agent}
use Rattle.node_spec.specs.Turns.{Input}
use Rattle.node_disk.specs.declared.fault.NodeFault.{NodeFault}
use Rattle.node_disk.specs.declared.fault.NodeFault.TheVariants as node_fault
use Rattle.world_spec.specs.Nodes.{boot_entry}
use Rattle.world_nodes.specs.Lengths.{entries_length}
use Rattle.world_nodes.specs.Nodes.{NodesState, site_at}
use Rattle.world_nodes.specs.Sites.{Deciding, SiteState}
use Rattle.world_nodes.specs.declared.fault.WorldFault.{WorldFault}
use Rattle.world_nodes.specs.declared.fault.WorldFault.TheVariants.{Full, NoMemory}

-- ---- a journal

-- The length of a journal in bytes, and that of an entry with which it would pass its bound.
pub record Overflow : Type 0 where
  pub length : ℕ
  pub body : ℕ

-- a journal of this length has no room for an entry of that length
abbrev pub overflow_at : (length body : ℕ) → Option Overflow
overflow_at n body = if nat_lt 1073741824 (n + body + 5) then Some (record { length = n; body = body }) else None

-- The journal with these entries has no room for one more, where there is one.
abbrev pub overflow : List Entry → Option Entry → Option Overflow
overflow entries None = None
overflow entries (Some e) = overflow_at (entries_length entries) (length (entry_bytes e))

-- ---- a node

abbrev pub step_overflow_by : {C : Type 0} → Deciding C → SiteState C → Input → Option C → Option Overflow
step_overflow_by step s i None = None
step_overflow_by step s i (Some core) = overflow s.entries (step core i).1

-- The entry of an input's step. A node that is down writes none.
abbrev pub site_step_overflow : {C : Type 0} → Deciding C → SiteState C → Input → Option Overflow
site_step_overflow step s i = step_overflow_by step s i s.up

abbrev pub restart_overflow_by : {C : Type 0} → NodeId → SiteState C → Option C → Option Overflow
restart_overflow_by x s (Some core) = None
restart_overflow_by x s None = overflow s.entries (Some (boot_entry x s.entries))

-- The boot of an opening. A node that is up writes none.
abbrev pub site_restart_overflow : {C : Type 0} → NodeId → SiteState C → Option Overflow
site_restart_overflow x s = restart_overflow_by x s s.up

-- where a crash within keeps what is written
abbrev pub kept_overflow : Bool → Option Overflow → Option Overflow
kept_overflow keep o = if keep then o else None

abbrev pub site_cut_overflow : {C : Type 0} → Deciding C → SiteState C → Input → Bool → Option Overflow
site_cut_overflow step s i keep = kept_overflow keep (site_step_overflow step s i)

abbrev pub site_cut_restart_overflow : {C : Type 0} → NodeId → SiteState C → Bool → Option Overflow
site_cut_restart_overflow x s keep = kept_overflow keep (site_restart_overflow x s)

-- ---- a node of a list

abbrev pub step_overflow_at : {C : Type 0} → Deciding C → List (SiteState C) → ℕ → Input → Option Overflow
step_overflow_at step ss i input = if nat_lt i (length ss) then site_step_overflow step (site_at ss i) input else None

abbrev pub restart_overflow_at : {C : Type 0} → NodeId → List (SiteState C) → ℕ → Option Overflow
restart_overflow_at x ss i = if nat_lt i (length ss) then site_restart_overflow x (site_at ss i) else None

abbrev pub cut_overflow_at : {C : Type 0} → Deciding C → List (SiteState C) → ℕ → Input → Bool → Option Overflow
cut_overflow_at step ss i input keep =
    if nat_lt i (length ss) then site_cut_overflow step (site_at ss i) input keep else None

abbrev pub cut_restart_overflow_at : {C : Type 0} → NodeId → List (SiteState C) → ℕ → Bool → Option Overflow
cut_restart_overflow_at x ss i keep =
    if nat_lt i (length ss) then site_cut_restart_overflow x (site_at ss i) keep else None

-- ---- a node by its name

abbrev pub step_node_overflow : {C : Type 0} → Deciding C → NodesState C → NodeId → Input → Option Overflow
step_node_overflow step n (Replica i) input = step_overflow_at step n.replicas i input
step_node_overflow step n (Mux i) input = step_overflow_at step n.muxes i input
step_node_overflow step n (Agent i) input = step_overflow_at step n.agents i input

abbrev pub restart_node_overflow : {C : Type 0} → NodesState C → NodeId → Option Overflow
restart_node_overflow n (Replica i) = restart_overflow_at (Replica i) n.replicas i
restart_node_overflow n (Mux i) = restart_overflow_at (Mux i) n.muxes i
restart_node_overflow n (Agent i) = restart_overflow_at (Agent i) n.agents i

abbrev pub cut_node_overflow : {C : Type 0} → Deciding C → NodesState C → NodeId → Input → Bool → Option Overflow
cut_node_overflow step n (Replica i) input keep = cut_overflow_at step n.replicas i input keep
cut_node_overflow step n (Mux i) input keep = cut_overflow_at step n.muxes i input keep
cut_node_overflow step n (Agent i) input keep = cut_overflow_at step n.agents i input keep

abbrev pub cut_restart_node_overflow : {C : Type 0} → NodesState C → NodeId → Bool → Option Overflow
cut_restart_node_overflow n (Replica i) keep = cut_restart_overflow_at (Replica i) n.replicas i keep
cut_restart_node_overflow n (Mux i) keep = cut_restart_overflow_at (Mux i) n.muxes i keep
cut_restart_node_overflow n (Agent i) keep = cut_restart_overflow_at (Agent i) n.agents i keep

-- ---- what is answered

-- Full comes of an overflow alone, and has its numbers. Want of memory may always come.
abbrev pub IsFaultOf : Option Overflow → WorldFault → Type 0
IsFaultOf o (Full length body) = o ≡ Some (record { length = length; body = body })
IsFaultOf o NoMemory = ⊤

-- Full exactly where there is an overflow.
abbrev pub FullsBy : {T : Type 0} → Option Overflow → Result T WorldFault → Type 0
FullsBy o (Ok x) = o ≡ None
FullsBy o (Err e) = IsFaultOf o e

-- A node's fault as a world's: a disk in memory fails for want of memory alone.
abbrev pub world_fault : NodeFault → WorldFault
world_fault (node_fault.Full length body) = Full length body
world_fault node_fault.NoMemory = NoMemory
world_fault node_fault.Disk = NoMemory
world_fault (node_fault.Damaged second offset) = NoMemory
world_fault (node_fault.WrongDisk entry) = NoMemory
world_fault (node_fault.Spent boot) = NoMemory
