-- Facts of all worlds: how one is said, and what it owes to hold in every world.
use Rattle.std.specs.Prelude.{◌≡◌, ◌≢◌, List, Some, true, length}
use Rattle.wire_core.specs.Members.{Each}
use Rattle.wire_core.specs.declared.entry.Entry.{Entry}
use Rattle.wire_core.specs.declared.node.NodeId.{NodeId}
use Rattle.vip_config.specs.declared.parts.ConfigParts.{ConfigParts}
use Rattle.node_spec.specs.Turns.{Input}
use Rattle.world_spec.specs.Nodes.{Lists, node_turn, listed, boot_entry, booted, opened}
use Rattle.world_spec.specs.World.{World, Sent, first_world, is_there, disk, at, all_sent}
use Rattle.world_spec.specs.Events.{Basic, AreNamed, IsNamed, after, world}
use Rattle.world_spec.specs.Shapes.{Grows, Given, TurnMoves, CutMoves}

-- A fact in three parts: P of each datagram, E of each entry, and Q of the lists of each node that is up.
pub record Holds
    (P : World → Sent → Type 0)
    (E : World → NodeId → Entry → Type 0)
    (Q : World → NodeId → Lists → Type 0)
    (w : World) : Type 0 where
  pub said : Each (P w) w.sent
  pub kept : (x : NodeId) → Each (E w x) (disk w x)
  pub lists : (x : NodeId) (l : Lists) → at w x ≡ Some l → Q w x l

-- a world of some list of events that a schedule may name
pub record Reached (cfg : ConfigParts) (w : World) : Type 0 where
  pub events : List Basic
  pub named : AreNamed cfg events
  pub is : w ≡ world cfg events

-- One event from a reached world. So each law of all worlds holds of both.
pub record Steps (cfg : ConfigParts) (w u : World) : Type 0 where
  pub before : Reached cfg w
  pub now : Reached cfg u
  pub event : Basic
  pub named : IsNamed cfg event
  pub is : u ≡ after cfg w event

-- What a fact owes: that it lasts, and that each opening and each turn keeps it.
pub record Keeps
    (cfg : ConfigParts)
    (P : World → Sent → Type 0)
    (E : World → NodeId → Entry → Type 0)
    (Q : World → NodeId → Lists → Type 0) : Type 0 where
  -- what was said stays true, and so does what was written
  pub said_lasts : (x : NodeId) (w u : World) → Steps cfg w u → Grows x w u → (s : Sent) → P w s → P u s
  pub kept_lasts : (x : NodeId) (w u : World) → Steps cfg w u → Grows x w u
      → (y : NodeId) (e : Entry) → E w y e → E u y e
  -- a node's lists stay true under the steps of all others
  pub lists_last : (x : NodeId) (w u : World) → Steps cfg w u → Grows x w u
      → (y : NodeId) → y ≢ x → (l : Lists) → Q w y l → Q u y l
  -- and under its own that changes neither its disk nor what was sent
  pub lists_rest : (x : NodeId) (w u : World) → Steps cfg w u → Grows x w u
      → disk u x ≡ disk w x → u.sent ≡ w.sent → (l : Lists) → Q w x l → Q u x l
  -- an opening
  pub opening : (w u : World) (x : NodeId) → Steps cfg w u → Holds P E Q w → Grows x w u
      → disk u x ≡ booted x (disk w x) → u.sent ≡ w.sent
      → E u x (boot_entry x (disk w x)) × Q u x (opened cfg x (booted x (disk w x)))
  -- a turn
  pub turn : (w u : World) (x : NodeId) (l : Lists) (i : Input) → Steps cfg w u → Holds P E Q w → Grows x w u
      → at w x ≡ Some l → Given cfg w x i → TurnMoves cfg w u x l i
      → Each (P u) (all_sent cfg x (node_turn cfg l i).sends)
      × Each (E u x) (listed (node_turn cfg l i).entry)
      × Q u x (node_turn cfg l i).state
  -- a turn that a crash cut short
  pub cut : (w u : World) (x : NodeId) (l : Lists) (i : Input) → Steps cfg w u → Holds P E Q w → Grows x w u
      → at w x ≡ Some l → Given cfg w x i → CutMoves cfg w u x l i → Each (E u x) (listed (node_turn cfg l i).entry)
  -- the first world
  pub first : Holds P E Q (first_world cfg)

-- ---- first facts

-- each datagram is of a node of the world
abbrev pub SendersAreThere : World → Type 0
SendersAreThere w = Each (λ (s : Sent). is_there w s.from ≡ true) w.sent

-- each datagram has one mark
abbrev pub IsMarked : World → Type 0
IsMarked w = length w.taken ≡ length w.sent
