-- All nodes together with their disks, and all datagrams that were ever sent.
use Rattle.std.specs.Prelude.{ℕ, zero, suc, ◌+◌, ◌-◌, Bool, true, false, ◌&&◌, not, if◌then◌else◌, nat_lt, ◌==◌, List, [], ◌∷◌, ◌++◌, map}
use Rattle.std.specs.Prelude.{filter, length, Option, Some, None, is_some, slice_get, slice_set, slice_index_or}
use Rattle.wire_core.specs.declared.entry.Entry.{Entry}
use Rattle.wire_core.specs.declared.node.NodeId.{NodeId}
use Rattle.wire_core.specs.declared.node.NodeId.TheVariants.{Replica, Mux, Agent}
use Rattle.vip_config.specs.declared.parts.ConfigParts.{ConfigParts}
use Rattle.node_spec.specs.Sends.{Place, ToNode, ToMachine, ToRouter, Said, Send}
use Rattle.node_spec.specs.Steps.{socket_at}
use Rattle.world_spec.specs.Nodes.{Lists, booted, opened}

-- A node: the entries of its disk, and its lists while it is up.
pub record Site : Type 0 where
  pub entries : List Entry
  pub up : Option Lists

-- A datagram: the node that sent it, where it went, and what it holds.
pub record Sent : Type 0 where
  pub from : NodeId
  pub to : Place
  pub said : Said

-- The nodes of each role by their numbers, and the datagrams in the order in which they were sent.
pub record World : Type 0 where
  pub replicas : List Site
  pub muxes : List Site
  pub agents : List Site
  pub sent : List Sent
  pub taken : List Bool  -- of each datagram, whether a delivery took it

-- ---- nodes

-- what is kept of a node that isn't configured
abbrev pub nobody : Site
nobody = record { entries = []; up = None }

-- a node
unfoldable pub site : World → NodeId → Site
site w (Replica i) = slice_index_or w.replicas i nobody
site w (Mux i) = slice_index_or w.muxes i nobody
site w (Agent i) = slice_index_or w.agents i nobody

-- the world with this node
unfoldable pub put : World → NodeId → Site → World
put w (Replica i) s = record w { replicas = slice_set w.replicas i s }
put w (Mux i) s = record w { muxes = slice_set w.muxes i s }
put w (Agent i) s = record w { agents = slice_set w.agents i s }

-- the node is one of the world's
unfoldable pub is_there : World → NodeId → Bool
is_there w (Replica i) = nat_lt i (length w.replicas)
is_there w (Mux i) = nat_lt i (length w.muxes)
is_there w (Agent i) = nat_lt i (length w.agents)

-- the entries of a node's disk
abbrev pub disk : World → NodeId → List Entry
disk w x = (site w x).entries

-- a node's lists, where it is up
abbrev pub at : World → NodeId → Option Lists
at w x = (site w x).up

-- the same node
abbrev pub same_node : NodeId → NodeId → Bool
same_node (Replica i) (Replica j) = i == j
same_node (Mux i) (Mux j) = i == j
same_node (Agent i) (Agent j) = i == j
same_node _ _ = false

-- ---- datagrams

-- the place has a socket
abbrev pub is_placed : ConfigParts → Send → Bool
is_placed cfg s = is_some (socket_at cfg s.to)

-- what a node sent
abbrev pub sent_by : NodeId → Send → Sent
sent_by x s = record { from = x; to = s.to; said = s.said }

-- the datagrams of a node's sends: none to a place without a socket
abbrev pub all_sent : ConfigParts → NodeId → List Send → List Sent
all_sent cfg x sends = map (sent_by x) (filter (is_placed cfg) sends)

-- no delivery took it
abbrev pub untaken : Sent → Bool
untaken s = false

-- the world after these datagrams
abbrev pub posted : World → List Sent → World
posted w ss = record w { sent = w.sent ++ ss; taken = w.taken ++ map untaken ss }

-- the datagram with a number, from 1
abbrev pub sent_at : World → ℕ → Option Sent
sent_at w zero = None
sent_at w (suc k) = slice_get w.sent k

-- a delivery takes the datagram with this number
abbrev pub takes : World → ℕ → World
takes w k = record w { taken = slice_set w.taken (k - 1) true }

-- it goes to a node
abbrev pub is_to_node : Place → Bool
is_to_node (ToNode x) = true
is_to_node (ToMachine machine) = false
is_to_node ToRouter = false

-- the first from number k on that goes to a node and that no delivery took
abbrev pub waiting_from : ℕ → List Sent → List Bool → Option ℕ
waiting_from k [] ts = None
waiting_from k (s ∷ ss) [] = None
waiting_from k (s ∷ ss) (t ∷ ts) =
    if is_to_node s.to && not t then Some k else waiting_from (k + 1) ss ts

-- The least number of a datagram to a node that no delivery took.
unfoldable pub least_waiting : World → Option ℕ
least_waiting w = waiting_from 1 w.sent w.taken

-- ---- at first

-- a node that was opened on an empty disk
abbrev pub first_site : ConfigParts → NodeId → Site
first_site cfg x = record { entries = booted x []; up = Some (opened cfg x (booted x [])) }

-- so many nodes of a role, from a number on
abbrev pub first_sites : ConfigParts → (ℕ → NodeId) → ℕ → ℕ → List Site
first_sites cfg node i zero = []
first_sites cfg node i (suc n) = first_site cfg (node i) ∷ first_sites cfg node (i + 1) n

-- Every node opened on an empty disk, and nothing sent.
unfoldable pub first_world : ConfigParts → World
first_world cfg = record {
  replicas = first_sites cfg Replica 0 5;
  muxes = first_sites cfg Mux 0 (length cfg.muxes);
  agents = first_sites cfg Agent 0 (length cfg.agents);
  sent = [];
  taken = [];
}
