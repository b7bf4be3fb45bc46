-- Whoever doesn't follow leads, or tries to, at a ballot of its own, and follows no other.
use Rattle.std.specs.Prelude.{ℕ, ◌≡◌, ◌<◌, ◌≤◌, false, Some, slice_get}
use Rattle.paxos_spec.specs.declared.cast.Cast.{Cast}
use Rattle.paxos_spec.specs.Votes.{Value}
use Rattle.paxos_spec.specs.Acceptor.{reach}
use Rattle.paxos_spec.specs.Leader.{is_follower}
use Rattle.paxos_spec.specs.Agreement.{View, HasVoted, HasLearned, IsChosen}
use Rattle.paxos_laws.specs.Facts.{Owns, Inv}
use Rattle.paxos_laws.specs.Steps.{Grows}

-- Its ballot is above 0, is its promise, and has its index for remainder by five.
abbrev pub LeaderOwns : Type 0
LeaderOwns = (w : View) → Inv w → (r : ℕ) → r < 5
    → is_follower (w.memory r).leader.stage ≡ false → Owns r (w.disk r) (w.memory r).leader

-- Whatever a replica voted for, learned and has in its log is of ballots up to its promise.
pub record PromiseBounds (w : View) (i : ℕ) : Type 0 where
  pub voted : (s b : ℕ) (v : Value) → HasVoted w i s b v → b ≤ (w.disk i).state.promise
  pub learned : (s b : ℕ) (v : Value) → HasLearned w i s b v → b ≤ (w.disk i).state.promise
  pub logged : (s : ℕ) (x : Cast) → slice_get (w.disk i).state.log s ≡ Some x → x.ballot ≤ (w.disk i).state.promise

abbrev pub PromiseIsBound : Type 0
PromiseIsBound = (w : View) → Inv w → (i : ℕ) → i < 5 → PromiseBounds w i

-- chosen at this slot, at this ballot or a lower one
pub record ChosenUpTo (w : View) (b s : ℕ) : Type 0 where
  pub ballot : ℕ
  pub value : Value
  pub bound : ballot ≤ b
  pub chosen : IsChosen w s ballot value

-- each slot below the length
abbrev pub Covered : View → ℕ → ℕ → Type 0
Covered w b l = (s : ℕ) → s < l → ChosenUpTo w b s

-- whoever doesn't follow has in its log only what was chosen at ballots up to its own
abbrev pub LeaderIsCovered : Type 0
LeaderIsCovered = (w : View) → Inv w → (r : ℕ) → r < 5
    → is_follower (w.memory r).leader.stage ≡ false
    → Covered w (w.memory r).leader.ballot (reach (w.disk r).state)

abbrev pub CoveredLasts : Type 0
CoveredLasts = (w u : View) → Grows w u → (b l : ℕ) → Covered w b l → Covered u b l
