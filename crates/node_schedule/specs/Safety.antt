-- The run that a text names is safe, and shows what the managers' log did.
use Rattle.std.specs.Prelude.{ℕ, List, Result, Ok, Err}
use Rattle.world_safety.specs.Safety.{IsAlwaysSafe, ShowsTheLog}
use Rattle.node_schedule.specs.Schedule.{NoSchedule, Scheduled, scheduled}

-- Each moment of the run is safe, after each event and after each delivery of a settle; and what its transcript shows of
-- the managers is what the commands of their log did, in the log's order.
abbrev pub IsSafeRun : Result Scheduled NoSchedule → Type 0
IsSafeRun (Ok s) = IsAlwaysSafe s.0 s.1 × ShowsTheLog s.0 s.1
IsSafeRun (Err why) = Unit {0}

abbrev pub IsSafeText : List ℕ → Type 0
IsSafeText text = IsSafeRun (scheduled text)
