-- What a step is: which node moves, and what it leaves of all others.
use Rattle.std.specs.Prelude.{◌≡◌, ◌≢◌, ℕ, List, [], ◌∷◌, ◌++◌, Option, Some, None, true, false, length}
use Rattle.wire_core.specs.Members.{In, Each}
use Rattle.wire_core.specs.declared.address.Socket.{Socket}
use Rattle.wire_core.specs.declared.entry.Entry.{Entry}
use Rattle.wire_core.specs.declared.node.NodeId.{NodeId}
use Rattle.vip_config.specs.declared.parts.ConfigParts.{ConfigParts}
use Rattle.vip_config.specs.Queries.{who_of}
use Rattle.schedule_text.specs.Fields.{is_node}
use Rattle.control_msg.specs.declared.message.Message.{Message}
use Rattle.node_spec.specs.Sends.{ToNode, Says}
use Rattle.node_spec.specs.Turns.{Input, Arrived, Ticked}
use Rattle.world_spec.specs.Nodes.{Lists, node_turn, listed, boot_entry, booted, opened}
use Rattle.world_spec.specs.World.{World, Sent, is_there, disk, at, all_sent}
use Rattle.world_spec.specs.Acts.{log_acts, turn_acts, loss}
use Rattle.world_spec.specs.Steps.{Outcome, arriving}
use Rattle.world_spec.specs.Transcript.{acts_in}

-- message m was sent from node x to node y
abbrev pub Said : World → NodeId → NodeId → Message → Type 0
Said w x y m = In (record { from = x; to = ToNode y; said = Says m }) w.sent

-- Node x made the one step from w to u: new entries, new datagrams of its own, and its lists from now on.
pub record Moves (w u : World) (x : NodeId) (es : List Entry) (ss : List Sent) (up : Option Lists) : Type 0 where
  pub disk_here : disk u x ≡ disk w x ++ es
  pub disk_other : (y : NodeId) → y ≢ x → disk u y ≡ disk w y
  pub at_here : at u x ≡ up
  pub at_other : (y : NodeId) → y ≢ x → at u y ≡ at w y
  pub there : (y : NodeId) → is_there u y ≡ is_there w y
  pub sent : u.sent ≡ w.sent ++ ss
  pub own : Each (λ s. s.from ≡ x) ss
  pub marked : length w.taken ≡ length w.sent → length u.taken ≡ length u.sent

-- What any step of node x leaves: of all other nodes everything, and a front of all that was.
pub record Grows (x : NodeId) (w u : World) : Type 0 where
  pub disk_more : (y : NodeId) → (es : List Entry) × (disk u y ≡ disk w y ++ es)
  pub disk_other : (y : NodeId) → y ≢ x → disk u y ≡ disk w y
  pub at_other : (y : NodeId) → y ≢ x → at u y ≡ at w y
  pub there : (y : NodeId) → is_there u y ≡ is_there w y
  pub sent_more : (ss : List Sent) × (u.sent ≡ w.sent ++ ss) × Each (λ s. s.from ≡ x) ss

-- How an input came to node x: as a datagram that was sent to it, from outside, or by the clock.
pub data Given (cfg : ConfigParts) (w : World) (x : NodeId) (i : Input) : Type 0 where
  IsSent : (s : Sent) → (sent : In s w.sent) → (to : s.to ≡ ToNode x) → (is : i ≡ arriving cfg s) → Given cfg w x i
  IsInjected : (from : Socket) → (bytes : List ℕ) → (outside : is_node (who_of cfg from) ≡ false)
      → (is : i ≡ Arrived from bytes) → Given cfg w x i
  IsTick : (now : ℕ) → (is : i ≡ Ticked now) → Given cfg w x i

-- the step of a turn
abbrev pub TurnMoves : ConfigParts → World → World → NodeId → Lists → Input → Type 0
TurnMoves cfg w u x l i =
    Moves w u x
    (listed (node_turn cfg l i).entry)
    (all_sent cfg x (node_turn cfg l i).sends)
    (Some (node_turn cfg l i).state)

-- the step of a turn that is cut short, and whose entry is kept
abbrev pub CutMoves : ConfigParts → World → World → NodeId → Lists → Input → Type 0
CutMoves cfg w u x l i = Moves w u x (listed (node_turn cfg l i).entry) [] None

-- the step of an opening
abbrev pub OpeningMoves : World → World → NodeId → Option Lists → Type 0
OpeningMoves w u x up = Moves w u x (boot_entry x (disk w x) ∷ []) [] up

-- The shapes of an event in w, by what it leaves: nothing but that a delivery took a datagram; a crash; a turn; a turn
-- that a crash cut short, with its entry; an opening; an opening that a crash cut short, with its entry.
pub data Shape (cfg : ConfigParts) (w : World) (r : Outcome) : Type 0 where
  IsQuiet : (x : NodeId) → (moves : Moves w r.0 x [] [] (at w x)) → (acts : acts_in r.1 ≡ []) → Shape cfg w r
  IsCrash : (x : NodeId) → (moves : Moves w r.0 x [] [] None) → (acts : acts_in r.1 ≡ loss x) → Shape cfg w r
  IsTurn : (x : NodeId) → (l : Lists) → (i : Input) → (was : at w x ≡ Some l) → (given : Given cfg w x i)
      → (moves : TurnMoves cfg w r.0 x l i) → (acts : acts_in r.1 ≡ turn_acts w x (node_turn cfg l i)) → Shape cfg w r
  IsCut : (x : NodeId) → (l : Lists) → (i : Input) → (was : at w x ≡ Some l) → (given : Given cfg w x i)
      → (moves : CutMoves cfg w r.0 x l i) → (acts : acts_in r.1 ≡ log_acts w x (node_turn cfg l i) ++ loss x)
      → Shape cfg w r
  IsOpening : (x : NodeId) → (there : is_there w x ≡ true)
      → (moves : OpeningMoves w r.0 x (Some (opened cfg x (booted x (disk w x))))) → (acts : acts_in r.1 ≡ [])
      → Shape cfg w r
  IsCutOpening : (x : NodeId) → (there : is_there w x ≡ true) → (moves : OpeningMoves w r.0 x None)
      → (acts : acts_in r.1 ≡ loss x) → Shape cfg w r
