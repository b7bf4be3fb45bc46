-- What one input makes a node do.
use Rattle.std.specs.Prelude.{ℕ, List, [], ◌∷◌, ◌++◌, Option, Some, None}
use Rattle.wire_core.specs.declared.address.Socket.{Socket}
use Rattle.wire_core.specs.declared.cause.DropCause.{DropCause}
use Rattle.wire_core.specs.declared.entry.Entry.{Entry}
use Rattle.wire_core.specs.declared.act.Act.{Act}
use Rattle.wire_core.specs.declared.note.Note.{Note}
use Rattle.wire_core.specs.declared.note.Note.TheVariants.{Dropped}
use Rattle.wire_core.specs.Steps.{first_of}
use Rattle.node_spec.specs.Sends.{Send}

-- An input: the bytes of a datagram that came from a socket, or the time, in milliseconds.
pub data Input : Type 0 where
  Arrived : (from : Socket) → (bytes : List ℕ) → Input
  Ticked : (now : ℕ) → Input

-- A turn: the node's new lists, at most one entry, and the acts, the notes and the datagrams, each in order. S is the
-- type of the role's lists.
pub record Turn (S : Type 0) : Type 0 where
  pub state : S
  pub entry : Option Entry
  pub acts : List Act
  pub notes : List Note
  pub sends : List Send

-- ---- the turns of which all others are made

-- the lists alone
abbrev pub quiet : {S : Type 0} → S → Turn S
quiet s = record { state = s; entry = None; acts = []; notes = []; sends = [] }

-- the input is dropped, for this cause
abbrev pub drop_turn : {S : Type 0} → S → DropCause → Turn S
drop_turn s cause = record { state = s; entry = None; acts = []; notes = Dropped cause ∷ []; sends = [] }

-- datagrams leave
abbrev pub says : {S : Type 0} → S → List Send → Turn S
says s xs = record { state = s; entry = None; acts = []; notes = []; sends = xs }

-- a lease or a connection begins or ends
abbrev pub act_turn : {S : Type 0} → S → Act → Turn S
act_turn s a = record { state = s; entry = None; acts = a ∷ []; notes = []; sends = [] }

-- something is noted
abbrev pub note_turn : {S : Type 0} → S → Note → Turn S
note_turn s n = record { state = s; entry = None; acts = []; notes = n ∷ []; sends = [] }

-- the turn, with an entry
abbrev pub writes : {S : Type 0} → Entry → Turn S → Turn S
writes e t = record t { entry = Some e }

-- ---- one after the other

-- A turn, and from the lists that it leaves the next one. Of two entries the first stands; no table has two.
abbrev pub also : {S : Type 0} → Turn S → (S → Turn S) → Turn S
also t f = record {
  state = (f t.state).state;
  entry = first_of t.entry (f t.state).entry;
  acts = t.acts ++ (f t.state).acts;
  notes = t.notes ++ (f t.state).notes;
  sends = t.sends ++ (f t.state).sends;
}

-- for each of some, one after the other
unfoldable pub each : {S X : Type 0} → (X → S → Turn S) → List X → S → Turn S
each f [] s = quiet s
each f (x ∷ xs) s = also (f x s) (each f xs)

-- A turn of a part of the lists is one of the whole.
abbrev pub lifted : {P S : Type 0} → (P → S) → Turn P → Turn S
lifted whole t = record {
  state = whole t.state;
  entry = t.entry;
  acts = t.acts;
  notes = t.notes;
  sends = t.sends;
}
