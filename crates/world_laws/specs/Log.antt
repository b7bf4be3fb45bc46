-- The log of a world: the replicas agree on it, it only grows, and their tables are its own.
use Rattle.std.specs.Prelude.{◌≡◌, ℕ, ◌<◌, ◌≤◌, ◌⊎◌, List, [], ◌∷◌, ◌++◌, length, take, drop, Option, Some}
use Rattle.wire_core.specs.declared.node.NodeId.TheVariants.{Replica}
use Rattle.vip_config.specs.Leases.{lease_rules_of}
use Rattle.vip_config.specs.declared.parts.ConfigParts.{ConfigParts}
use Rattle.lease_spec.specs.Table.{Leases, table}
use Rattle.paxos_spec.specs.Acceptor.{reach}
use Rattle.paxos_spec.specs.Agreement.{View, values_of, world_log}
use Rattle.paxos_spec.specs.Replica.{Out}
use Rattle.paxos_spec.specs.Votes.{Value}
use Rattle.paxos_laws.specs.Facts.{Inv, Proposed}
use Rattle.paxos_laws.specs.Steps.{Good}
use Rattle.paxos_laws.specs.Steps as paxos
use Rattle.manager_spec.specs.Agreement.{proposed}
use Rattle.manager_spec.specs.Manager.{Manager, leases_of}
use Rattle.manager_spec.specs.ManagerTable.{manager_half}
use Rattle.node_spec.specs.Turns.{Input}
use Rattle.world_spec.specs.Nodes.{OfManager}
use Rattle.world_spec.specs.Shapes.{Given}
use Rattle.world_spec.specs.World.{World, at}
use Rattle.world_laws.specs.Seen.{view}
use Rattle.world_laws.specs.Turns.{IsAt}

-- the log of all five
abbrev pub log : World → List Value
log w = world_log (view w)

-- what is leased, by the whole log
abbrev pub book : ConfigParts → World → Leases
book cfg w = table (lease_rules_of cfg) (log w)

-- A world in order: the view is, and each replica's lists are those of its disk.
pub record InOrder (w : World) : Type 0 where
  pub inv : Inv (view w)
  pub lists : (i : ℕ) (m : Manager) → at w (Replica i) ≡ Some (OfManager m) → IsAt (view w) i m

-- One log: each disk's table is that of the log's first values, so is each replica's; a longest disk has the book.
pub record BooksAgree (cfg : ConfigParts) (w : World) : Type 0 where
  pub disks : (i : ℕ) → i < 5
      → table (lease_rules_of cfg) (values_of ((view w).disk i))
      ≡ table (lease_rules_of cfg) (take (reach ((view w).disk i).state) (log w))
  pub lists : (i : ℕ) (m : Manager) → i < 5 → at w (Replica i) ≡ Some (OfManager m)
      → leases_of (lease_rules_of cfg) m.acceptor ≡ table (lease_rules_of cfg) (take (reach m.acceptor) (log w))
  pub longest : (i : ℕ) → i < 5
      → ((j : ℕ) → j < 5 → reach ((view w).disk j).state ≤ reach ((view w).disk i).state)
      → table (lease_rules_of cfg) (values_of ((view w).disk i)) ≡ book cfg w

-- the log begins with what it was, and in an event it grows by no value or by one
pub record LogGrows (w u : World) : Type 0 where
  pub front : log u ≡ log w ++ drop (length (log w)) (log u)
  pub one : (log u ≡ log w) ⊎ ((v : Value) × (log u ≡ log w ++ v ∷ []))

-- ---- a step

-- an event is one good step of one replica
pub record StepsOnce (w u : View) : Type 0 where
  pub replica : ℕ
  pub offered : Option Value
  pub out : Out
  pub number : replica < 5
  pub moves : paxos.Moves w u replica out
  pub good : Good offered w u replica out

-- a value that a replica offers in its turn: what the lists before its proposal give
pub record Offered (cfg : ConfigParts) (w : World) (v : Value) : Type 0 where
  pub replica : ℕ
  pub lists : Manager
  pub input : Input
  pub was : at w (Replica replica) ≡ Some (OfManager lists)
  pub given : Given cfg w (Replica replica) input
  pub is : v ≡ proposed cfg (manager_half cfg lists input).turn.state

-- a value that was proposed by then was proposed at its slot before, or is offered in the event
abbrev pub ValuesTravel : ConfigParts → World → World → Type 0
ValuesTravel cfg w u = (b s : ℕ) (v : Value) → Proposed (view u) b s v
    → ((c : ℕ) × Proposed (view w) c s v) ⊎ Offered cfg w v
