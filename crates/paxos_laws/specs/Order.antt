-- A view in order: five replicas begin so, each step leaves them so, and all that is claimed holds of them.
use Rattle.std.specs.Prelude.{ℕ, ◌≡◌, ◌<◌, [], Option}
use Rattle.paxos_spec.specs.Votes.{Value}
use Rattle.paxos_spec.specs.Replica.{new_memory, Out}
use Rattle.paxos_spec.specs.Agreement.{View, empty_disk, Agrees, LearnsChosen, OwnerLearned, PrimaryKnows, PrimarySeal, PrimaryLog, LogsAgree, IsBeginning}
use Rattle.paxos_laws.specs.Facts.{Inv}
use Rattle.paxos_laws.specs.Steps.{Moves, Grows, Good}

-- all that is claimed of a view
pub record Claims (w : View) : Type 0 where
  pub agrees : Agrees w
  pub learned : LearnsChosen w
  pub owner : OwnerLearned w
  pub knows : PrimaryKnows w
  pub seal : PrimarySeal w
  pub ballots : PrimaryLog w
  pub logs : LogsAgree w
  pub beginning : IsBeginning w

abbrev pub InOrderClaims : Type 0
InOrderClaims = (w : View) → Inv w → Claims w

-- five replicas that have done nothing
pub record IsNew (w : View) : Type 0 where
  pub disks : (i : ℕ) → i < 5 → w.disk i ≡ empty_disk
  pub memories : (i : ℕ) → i < 5 → w.memory i ≡ new_memory
  pub silent : w.sent ≡ []

abbrev pub Begins : Type 0
Begins = (w : View) → IsNew w → Inv w

-- a step that shows what it owes leaves all in order
abbrev pub Keeps : Type 0
Keeps = (f : Option Value) (w u : View) (r : ℕ) (o : Out)
    → Moves w u r o → r < 5 → Inv w → Good f w u r o → Inv u

-- and only adds
abbrev pub StepGrows : Type 0
StepGrows = (f : Option Value) (w u : View) (r : ℕ) (o : Out) → Moves w u r o → Good f w u r o → Grows w u
