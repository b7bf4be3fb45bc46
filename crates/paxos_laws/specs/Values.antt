-- Values only travel: whatever stands in a disk, a message or a memory was proposed, and was offered before that.
use Rattle.std.specs.Prelude.{ℕ, ◌≡◌, ◌<◌, ◌⊎◌, Bool, true, Option, Some, Contains, slice_get}
use Rattle.paxos_spec.specs.declared.mail.Body.TheVariants.{Promise, Accept, Chosen}
use Rattle.paxos_spec.specs.declared.stage.Stage.TheVariants.{Candidate, Catching}
use Rattle.paxos_spec.specs.declared.cast.Cast.{Cast}
use Rattle.paxos_spec.specs.Votes.{Value}
use Rattle.paxos_spec.specs.Acceptor.{reach}
use Rattle.paxos_spec.specs.Leader.{LeaderState, is_leading, value_out}
use Rattle.paxos_spec.specs.Replica.{Out, mail}
use Rattle.paxos_spec.specs.Agreement.{View, Disk, IsChosen, world_log}
use Rattle.paxos_laws.specs.Facts.{Proposed, Inv}
use Rattle.paxos_laws.specs.Steps.{Moves, Good}

-- the value was offered in this step, or was proposed at the slot before
abbrev pub TravelsFrom : Option Value → View → ℕ → Value → Type 0
TravelsFrom f w s v = (f ≡ Some v) ⊎ ((c : ℕ) × Proposed w c s v)

-- a step proposes nothing else
abbrev pub ValuesTravel : Type 0
ValuesTravel = (f : Option Value) (w u : View) (r : ℕ) (o : Out)
    → Moves w u r o → Good f w u r o → (b s : ℕ) (v : Value) → Proposed u b s v → TravelsFrom f w s v

-- what is said of a value at a ballot and a slot
abbrev pub Said : Type 1
Said = ℕ → ℕ → Value → Type 0

-- said of the value at some ballot
abbrev pub AtSome : Said → ℕ → Option Value → Type 0
AtSome P s o = (v : Value) → o ≡ Some v → (b : ℕ) × P b s v

-- of each value on a disk: the votes, the lessons, the vote that stands, the log
pub record OnDisk (P : Said) (d : Disk) : Type 0 where
  pub voted : (s b : ℕ) (v : Value) → Contains d.votes (record { slot = s; ballot = b; value = v }) → P b s v
  pub learned : (s b : ℕ) (v : Value) → Contains d.learns (record { slot = s; ballot = b; value = v }) → P b s v
  pub stands : 0 < d.state.vote.ballot → P d.state.vote.ballot (reach d.state) d.state.vote.value
  pub logged : (s : ℕ) (x : Cast) → slice_get d.state.log s ≡ Some x → P x.ballot s x.value

-- of each value that a message brings
pub record InMail (P : Said) (w : View) : Type 0 where
  pub accept : (by to b s : ℕ) (v : Value) → Contains w.sent (mail by (Accept b s v) to) → P b s v
  pub chosen : (by to b s : ℕ) (v : Value) → Contains w.sent (mail by (Chosen s b v) to) → P b s v
  pub promise : (by to c l b : ℕ) (v : Value)
      → 0 < b → Contains w.sent (mail by (Promise c l b (Some v)) to) → P b l v

-- of each value that a leader keeps, where its stage has use of it: the best vote told, what pends, what is outstanding
pub record InMemory (P : Said) (d : Disk) (l : LeaderState) : Type 0 where
  pub best : l.stage ≡ Candidate → 0 < l.tally.best.ballot
      → P l.tally.best.ballot l.tally.longest l.tally.best.value
  pub pending : l.stage ≡ Catching → AtSome P l.sought l.pending
  pub outstanding : is_leading l.stage ≡ true → AtSome P (reach d.state) (value_out l.out)

-- of each value anywhere
pub record Everywhere (P : Said) (w : View) : Type 0 where
  pub disks : (i : ℕ) → i < 5 → OnDisk P (w.disk i)
  pub mails : InMail P w
  pub memories : (i : ℕ) → i < 5 → InMemory P (w.disk i) (w.memory i).leader
  pub chosen : (s b : ℕ) (v : Value) → IsChosen w s b v → P b s v
  pub log : (s : ℕ) → AtSome P s (slice_get (world_log w) s)

-- Each value anywhere was proposed, at its slot, and where it has a ballot at its ballot. So whatever is true of each
-- value that was proposed is true of each.
abbrev pub EachWasProposed : Type 0
EachWasProposed = (w : View) → Inv w → Everywhere (Proposed w) w

-- the value passes the test
abbrev pub Passes : (Value → Bool) → Said
Passes test b s v = test v ≡ true

-- What each value passes that was proposed before, and that is offered, each passes that is proposed after.
abbrev pub TestsTravel : Type 0
TestsTravel = (test : Value → Bool) (f : Option Value) (w u : View) (r : ℕ) (o : Out)
    → Moves w u r o → Good f w u r o
    → ((v : Value) → f ≡ Some v → test v ≡ true)
    → ((b s : ℕ) (v : Value) → Proposed w b s v → test v ≡ true)
    → (b s : ℕ) (v : Value) → Proposed u b s v → test v ≡ true

-- and what each passes that was proposed, each passes anywhere
abbrev pub TestsHold : Type 0
TestsHold = (test : Value → Bool) (w : View) → Inv w
    → ((b s : ℕ) (v : Value) → Proposed w b s v → test v ≡ true) → Everywhere (Passes test) w
