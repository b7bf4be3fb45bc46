-- Runs to look at: a value is chosen, a value is inherited, a log is caught up.
use Rattle.std.specs.Prelude.{ℕ, ◌≡◌, List, [], ◌∷◌, ◌++◌, Some, false}
use Rattle.wire_core.specs.Commands.{Release}
use Rattle.paxos_spec.specs.declared.stage.Stage.{Stage}
use Rattle.paxos_spec.specs.declared.stage.Stage.TheVariants.{Inheriting, Primary}
use Rattle.paxos_spec.specs.declared.cast.Cast.{Cast}
use Rattle.paxos_spec.specs.Votes.{Value}
use Rattle.paxos_spec.specs.Leader.{value_out}
use Rattle.paxos_log.specs.declared.event.PaxosEvent.{PaxosEvent}
use Rattle.paxos_log.specs.declared.event.PaxosEvent.TheVariants.{Campaign, Offer, Deliver, Crash}
use Rattle.paxos_log.specs.World.{World, run, start, view}

-- lease 7 is given back
abbrev pub value : Value
value = Release 7 ∷ []

abbrev pub value_spelled : List ℕ
value_spelled = 1 ∷ 3 ∷ 0 ∷ 0 ∷ 0 ∷ 0 ∷ 0 ∷ 0 ∷ 0 ∷ 7 ∷ []

-- 0 campaigns at ballot 5. Its Prepares are 1 to 5. Delivered to 0, 2, 3 they are answered by the Promises 6 to 8.
abbrev pub leads : List PaxosEvent
leads = Campaign 0 ∷ Deliver 1 ∷ Deliver 3 ∷ Deliver 4 ∷ Deliver 6 ∷ Deliver 7 ∷ Deliver 8 ∷ []

-- It proposes the value. The Accepts are 9 to 13, the Accepted of 0, 2, 3 are 14 to 16, and the Chosen are 17 to 20, of
-- which the one to 2 is delivered.
abbrev pub chooses : List PaxosEvent
chooses = leads ++ Offer 0 value_spelled ∷ Deliver 9 ∷ Deliver 11 ∷ Deliver 12
    ∷ Deliver 14 ∷ Deliver 15 ∷ Deliver 16 ∷ Deliver 18 ∷ []

-- 2 alone votes for the value, and 0 goes down. 1 campaigns at ballot 6, its Prepares are 15 to 19, and 1, 2, 3 answer
-- by 20 to 22: 2 tells its vote. So 1 proposes the value again, by 23 to 27.
abbrev pub inherits : List PaxosEvent
inherits = leads ++ Offer 0 value_spelled ∷ Deliver 11 ∷ Crash 0 false
    ∷ Campaign 1 ∷ Deliver 16 ∷ Deliver 17 ∷ Deliver 18 ∷ Deliver 20 ∷ Deliver 21 ∷ Deliver 22 ∷ []

-- 1, 2, 3 vote for it by 28 to 30.
abbrev pub inherited : List PaxosEvent
inherited = inherits ++ Deliver 24 ∷ Deliver 25 ∷ Deliver 26 ∷ Deliver 28 ∷ Deliver 29 ∷ Deliver 30 ∷ []

-- After the value was chosen, 1 campaigns at ballot 6 with an empty log. Its Prepares are 21 to 25, and 1, 2, 3 answer
-- by 26 to 28. 2 has a log of length 1, so 1 fetches the slot by 29, and 30 brings it.
abbrev pub catches_up : List PaxosEvent
catches_up = chooses ++ Campaign 1 ∷ Deliver 22 ∷ Deliver 23 ∷ Deliver 24
    ∷ Deliver 26 ∷ Deliver 27 ∷ Deliver 28 ∷ Deliver 29 ∷ Deliver 30 ∷ []

-- a replica's stage, ballot and log
pub record Shows (w : World) (r : ℕ) (stage : Stage) (ballot : ℕ) (log : List Cast) : Type 0 where
  pub stands : ((view w).memory r).leader.stage ≡ stage
  pub leads_at : ((view w).memory r).leader.ballot ≡ ballot
  pub knows : ((view w).disk r).state.log ≡ log

abbrev pub lesson : ℕ → Cast
lesson ballot = record { ballot = ballot; value = value }

abbrev pub ChosenRun : Type 0
ChosenRun = Shows (run chooses start) 0 Primary 5 (lesson 5 ∷ [])
    × (((view (run chooses start)).disk 2).state.log ≡ lesson 5 ∷ [])

abbrev pub InheritingRun : Type 0
InheritingRun = Shows (run inherits start) 1 Inheriting 6 []
    × (value_out ((view (run inherits start)).memory 1).leader.out ≡ Some value)

abbrev pub InheritedRun : Type 0
InheritedRun = Shows (run inherited start) 1 Primary 6 (lesson 6 ∷ [])

abbrev pub CatchingRun : Type 0
CatchingRun = Shows (run catches_up start) 1 Primary 6 (lesson 5 ∷ [])

-- a message that was never sent
abbrev pub NothingRun : Type 0
NothingRun = run (Deliver 1 ∷ []) start ≡ start
