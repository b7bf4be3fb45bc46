-- Chosen, learned, and what is claimed of them.
use Rattle.std.specs.Prelude.{ℕ, ◌%◌, ◌<◌, ◌≤◌, ◌≡◌, ◌⊎◌, List, [], ◌∷◌, ◌++◌, map, drop, take, length, Contains}
use Rattle.std.specs.Prelude.{slice_get, Option, Some, None, nat_lt, if◌then◌else◌}
use Rattle.wire_core.specs.declared.entry.Entry.{Entry}
use Rattle.wire_core.specs.declared.entry.Entry.TheVariants as entry
use Rattle.paxos_spec.specs.declared.mail.Mail.{Mail}
use Rattle.paxos_spec.specs.declared.stage.Stage.TheVariants.{Primary}
use Rattle.paxos_spec.specs.declared.cast.Cast.{Cast}
use Rattle.paxos_spec.specs.Votes.{Value}
use Rattle.paxos_spec.specs.Five.{five}
use Rattle.paxos_spec.specs.Acceptor.{AcceptorState, new_acceptor, reach, most_slots, follow}
use Rattle.paxos_spec.specs.Replica.{Memory}

-- A vote or a lesson, with the length that the log had when it was made.
pub record Placed : Type 0 where
  pub slot : ℕ
  pub ballot : ℕ
  pub value : Value

-- What the entries of a replica say: the state that they leave, and all that they ever said.
pub record Disk : Type 0 where
  pub state : AcceptorState
  pub votes : List Placed  -- all votes, also those that no longer stand
  pub learns : List Placed  -- all that was learned

abbrev pub empty_disk : Disk
empty_disk = record { state = new_acceptor; votes = []; learns = [] }

abbrev pub votes_after : Disk → Entry → List Placed
votes_after d (entry.Boot version role index boot) = d.votes
votes_after d (entry.Promise ballot) = d.votes
votes_after d (entry.Vote ballot value) = record { slot = reach d.state; ballot = ballot; value = value } ∷ d.votes
votes_after d (entry.Learn ballot value) = d.votes
votes_after d (entry.Epoch epoch) = d.votes

abbrev pub learns_after : Disk → Entry → List Placed
learns_after d (entry.Boot version role index boot) = d.learns
learns_after d (entry.Promise ballot) = d.learns
learns_after d (entry.Vote ballot value) = d.learns
learns_after d (entry.Learn ballot value) =
    if nat_lt (reach d.state) most_slots
    then record { slot = reach d.state; ballot = ballot; value = value } ∷ d.learns
    else d.learns
learns_after d (entry.Epoch epoch) = d.learns

-- with one more entry
abbrev pub after : Disk → Entry → Disk
after d e = record { state = follow d.state e; votes = votes_after d e; learns = learns_after d e }

-- with a step's entry, if it has one
abbrev pub grown : Disk → Option Entry → Disk
grown d None = d
grown d (Some e) = after d e

-- What the claims speak of: the disks, the memories, and all messages that were ever sent.
pub record View : Type 0 where
  pub disk : ℕ → Disk
  pub memory : ℕ → Memory
  pub sent : List Mail

-- three of the five
pub record Three (P : ℕ → Type 0) : Type 0 where
  pub i : ℕ
  pub j : ℕ
  pub k : ℕ
  pub i_j : i < j
  pub j_k : j < k
  pub k_5 : k < 5
  pub at_i : P i
  pub at_j : P j
  pub at_k : P k

-- the replica voted so, when its log had the length of the slot
abbrev pub HasVoted : View → ℕ → ℕ → ℕ → Value → Type 0
HasVoted w i s b v = Contains (w.disk i).votes (record { slot = s; ballot = b; value = v })

-- it learned so, when its log had the length of the slot
abbrev pub HasLearned : View → ℕ → ℕ → ℕ → Value → Type 0
HasLearned w i s b v = Contains (w.disk i).learns (record { slot = s; ballot = b; value = v })

-- Chosen at a slot and a ballot: three have voted so.
pub record IsChosen (w : View) (s b : ℕ) (v : Value) : Type 0 where
  pub by_three : Three (λ i. HasVoted w i s b v)

-- three have voted so, or may still
pub record Choosable (w : View) (s b : ℕ) (v : Value) : Type 0 where
  pub by_three : Three (λ i. HasVoted w i s b v ⊎ ((w.disk i).state.promise ≤ b))

-- At one slot one value is chosen.
abbrev pub Agrees : View → Type 0
Agrees w = (s b c : ℕ) (v x : Value) → IsChosen w s b v → IsChosen w s c x → v ≡ x

-- What is learned was chosen.
abbrev pub LearnsChosen : View → Type 0
LearnsChosen w = (i s b : ℕ) (v : Value) → i < 5 → HasLearned w i s b v → IsChosen w s b v

-- What is learned at a ballot, its owner has learned.
abbrev pub OwnerLearned : View → Type 0
OwnerLearned w = (i s b : ℕ) (v : Value) → i < 5 → HasLearned w i s b v → HasLearned w (b % 5) s b v

abbrev pub IsPrimary : View → ℕ → Type 0
IsPrimary w r = (w.memory r).leader.stage ≡ Primary

-- A primary's log exceeds each slot that a lower ballot chose.
abbrev pub PrimaryKnows : View → Type 0
PrimaryKnows w = (r s b : ℕ) (v : Value) → r < 5 → IsPrimary w r
    → b < (w.memory r).leader.ballot → IsChosen w s b v → s < reach (w.disk r).state

-- from the length on nothing is chosen below the ballot, now or ever
abbrev pub Seal : View → ℕ → ℕ → Type 0
Seal w b l = (s c : ℕ) (v : Value) → c < b → l ≤ s → Choosable w s c v → ⊥

-- A primary has a seal at its length: PrimaryKnows, for ever.
abbrev pub PrimarySeal : View → Type 0
PrimarySeal w = (r : ℕ) → r < 5 → IsPrimary w r → Seal w (w.memory r).leader.ballot (reach (w.disk r).state)

-- A primary's log was learned at ballots up to its own.
abbrev pub PrimaryLog : View → Type 0
PrimaryLog w = (r s : ℕ) (x : Cast) → r < 5 → IsPrimary w r
    → slice_get (w.disk r).state.log s ≡ Some x → x.ballot ≤ (w.memory r).leader.ballot

-- Two logs have one value at a slot that both have.
abbrev pub LogsAgree : View → Type 0
LogsAgree w = (i j s : ℕ) (x y : Cast) → i < 5 → j < 5
    → slice_get (w.disk i).state.log s ≡ Some x → slice_get (w.disk j).state.log s ≡ Some y → x.value ≡ y.value

-- what a replica has learned, slot by slot
abbrev pub values_of : Disk → List Value
values_of d = map (λ x. x.value) d.state.log

-- for each slot the value of the first list that has it
abbrev pub first_of : List (List Value) → List Value
first_of [] = []
first_of (l ∷ ls) = l ++ drop (length l) (first_of ls)

-- the log of all five: for each slot the value on the disk of least number that has one
abbrev pub world_log : View → List Value
world_log w = first_of (map (λ i. values_of (w.disk i)) five)

-- Each replica has the beginning of it.
abbrev pub IsBeginning : View → Type 0
IsBeginning w = (i : ℕ) → i < 5 → values_of (w.disk i) ≡ take (reach (w.disk i).state) (world_log w)
