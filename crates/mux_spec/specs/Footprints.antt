-- What each row leaves as it was, and what only rises.
use Rattle.std.specs.Prelude.{◌≡◌, ℕ, ◌≤◌, ◌<◌, ◌⊎◌, [], ◌∷◌, None, Some}
use Rattle.wire_core.specs.Members.{Each}
use Rattle.wire_core.specs.declared.cause.DropCause.{DropCause}
use Rattle.wire_core.specs.declared.cause.DropCause.TheVariants as drop
use Rattle.wire_core.specs.declared.entry.Entry.TheVariants.{Epoch}
use Rattle.wire_core.specs.declared.note.Note.TheVariants.{Dropped}
use Rattle.wire_core.specs.declared.node.NodeId.{NodeId}
use Rattle.wire_core.specs.declared.range.Range.{Range}
use Rattle.control_msg.specs.declared.message.Message.TheVariants.{Programmed, Unprogrammed, MuxRefuse}
use Rattle.node_spec.specs.Sends.{Said, Says, Send, ToNode}
use Rattle.node_spec.specs.Turns.{Turn, drop_turn}
use Rattle.mux_spec.specs.Commands.{raised}
use Rattle.mux_spec.specs.Mux.{Mux}
use Rattle.mux_spec.specs.Rows.{kept_at}

-- ---- what stays

-- What the clock leaves: the gate and the rows; nothing is written, done or noted.
pub record LeavesGateAndRows (m : Mux) (t : Turn Mux) : Type 0 where
  pub state : t.state ≡ record m { flows = t.state.flows; time = t.state.time }
  pub entry : t.entry ≡ None
  pub acts : t.acts ≡ []
  pub notes : t.notes ≡ []

-- What a packet leaves: all but the flows; nothing is written or done.
pub record LeavesAllButFlows (m : Mux) (t : Turn Mux) : Type 0 where
  pub state : t.state ≡ record m { flows = t.state.flows }
  pub entry : t.entry ≡ None
  pub acts : t.acts ≡ []

-- What a command leaves: all but the rows and the epoch; nothing is done.
pub record LeavesFlows (m : Mux) (t : Turn Mux) : Type 0 where
  pub state : t.state ≡ record m { gate = t.state.gate; rows = t.state.rows }
  pub boot : t.state.gate.boot ≡ m.gate.boot
  pub acts : t.acts ≡ []

-- What a message of another mux leaves: everything; nothing is written or done.
pub record LeavesAll (m : Mux) (t : Turn Mux) : Type 0 where
  pub state : t.state ≡ m
  pub entry : t.entry ≡ None
  pub acts : t.acts ≡ []

-- ---- what is dropped

-- A row drops the input, and then it does nothing else; or it notes nothing.
abbrev pub DropsOrNot : Mux → Turn Mux → Type 0
DropsOrNot m t = (t.notes ≡ []) ⊎ ((cause : DropCause) × (t ≡ drop_turn m cause))

-- the causes for which a command that was admitted is dropped
abbrev pub IsAdmitted : DropCause → Type 0
IsAdmitted drop.NotMine = Unit {0}
IsAdmitted (drop.OldNumber kept) = Unit {0}
IsAdmitted _ = ⊥

-- A command that is dropped leaves everything as it was, unless it raised the epoch before: then the greater epoch
-- and its entry stay.
pub data CommandDrops (m : Mux) (t : Turn Mux) : Type 0 where
  Taken : t.notes ≡ [] → CommandDrops m t
  Leaves : (cause : DropCause) → t.notes ≡ Dropped cause ∷ [] → t.state ≡ m → t.entry ≡ None → CommandDrops m t
  Raises : (cause : DropCause) → IsAdmitted cause → t.notes ≡ Dropped cause ∷ [] → (epoch : ℕ)
      → t.state ≡ raised m epoch → t.entry ≡ Some (Epoch epoch) → CommandDrops m t

-- ---- what is answered

-- an answer to a command carries this boot
abbrev pub CarriesBoot : ℕ → Said → Type 0
CarriesBoot own (Says (Programmed epoch boot n)) = boot ≡ own
CarriesBoot own (Says (Unprogrammed epoch boot n)) = boot ≡ own
CarriesBoot own (Says (MuxRefuse epoch boot kept)) = boot ≡ own
CarriesBoot own _ = ⊥

-- Each answer goes to the sender of the command, and carries the mux's own boot.
abbrev pub AnswersBy : ℕ → NodeId → Turn Mux → Type 0
AnswersBy boot from t = Each (λ (s : Send). (s.to ≡ ToNode from) × CarriesBoot boot s.said) t.sends

-- ---- what only rises

-- A mux keeps its number and its boot; its epoch, its time and the kept number of each range never fall. A greater
-- epoch is durable with the turn that raises it.
pub record Rises (m : Mux) (t : Turn Mux) : Type 0 where
  pub index : t.state.index ≡ m.index
  pub boot : t.state.gate.boot ≡ m.gate.boot
  pub epoch : (t.state.gate ≡ m.gate)
      ⊎ ((m.gate.epoch < t.state.gate.epoch) × (t.entry ≡ Some (Epoch t.state.gate.epoch)))
  pub time : m.time ≤ t.state.time
  pub kept : (r : Range) → (kept_at m.rows r).n ≤ (kept_at t.state.rows r).n
