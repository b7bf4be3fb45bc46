-- The log of all five only grows, at its end, by what a step learned there.
use Rattle.std.specs.Prelude.{ℕ, ◌≡◌, ◌<◌, ◌≤◌, ◌==◌, if◌then◌else◌, List, [], ◌∷◌, ◌++◌, length, drop, Option, Some, None, slice_get}
use Rattle.wire_core.specs.declared.entry.Entry.{Entry}
use Rattle.wire_core.specs.declared.entry.Entry.TheVariants as entry
use Rattle.paxos_spec.specs.Votes.{Value}
use Rattle.paxos_spec.specs.Acceptor.{reach}
use Rattle.paxos_spec.specs.Replica.{Out}
use Rattle.paxos_spec.specs.Agreement.{View, HasLearned, IsChosen, values_of, world_log}
use Rattle.paxos_laws.specs.Facts.{Inv}
use Rattle.paxos_laws.specs.Steps.{Moves, Grows, Good}

-- it begins with what it was
abbrev pub LogOnlyGrows : Type 0
LogOnlyGrows = (w u : View)
    → Inv w → Inv u → Grows w u → world_log u ≡ world_log w ++ drop (length (world_log w)) (world_log u)

-- the value that a replica learns, where its log is as long as that of all five
abbrev pub value_added : View → ℕ → Option Entry → List Value
value_added w r None = []
value_added w r (Some (entry.Boot version role index boot)) = []
value_added w r (Some (entry.Epoch epoch)) = []
value_added w r (Some (entry.Promise ballot)) = []
value_added w r (Some (entry.Vote ballot value)) = []
value_added w r (Some (entry.Learn ballot value)) =
    if reach (w.disk r).state == length (world_log w) then value ∷ [] else []

-- one step adds this and no more
abbrev pub StepAdds : Type 0
StepAdds = (f : Option Value) (w u : View) (r : ℕ) (o : Out)
    → Moves w u r o → r < 5 → Inv w → Good f w u r o → world_log u ≡ world_log w ++ value_added w r o.entry

-- what a replica learned at a slot stands there
abbrev pub LearnedStands : Type 0
LearnedStands = (w : View) → Inv w → (i s b : ℕ) (v : Value)
    → i < 5 → HasLearned w i s b v → slice_get (world_log w) s ≡ Some v

-- at some ballot some replica learned the value at the slot
pub record WasLearned (w : View) (s : ℕ) (v : Value) : Type 0 where
  pub by : ℕ
  pub number : by < 5
  pub ballot : ℕ
  pub learned : HasLearned w by s ballot v

-- what stands at a slot was learned there
abbrev pub LogWasLearned : Type 0
LogWasLearned = (w : View) → Inv w → (s : ℕ) (v : Value) → slice_get (world_log w) s ≡ Some v → WasLearned w s v

-- and what was chosen for a slot that the log has stands there
abbrev pub ChosenStands : Type 0
ChosenStands = (w : View) → Inv w → (s b : ℕ) (v : Value)
    → s < length (world_log w) → IsChosen w s b v → slice_get (world_log w) s ≡ Some v

-- a replica with the greatest length has the log of all five
abbrev pub LongestHasAll : Type 0
LongestHasAll = (w : View) → Inv w → (i : ℕ) → i < 5
    → ((j : ℕ) → j < 5 → reach (w.disk j).state ≤ reach (w.disk i).state)
    → values_of (w.disk i) ≡ world_log w

-- no replica's log is longer
abbrev pub NoneIsLonger : Type 0
NoneIsLonger = (w : View) → Inv w → (i : ℕ) → i < 5 → reach (w.disk i).state ≤ length (world_log w)
