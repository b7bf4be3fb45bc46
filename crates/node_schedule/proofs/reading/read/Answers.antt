use Rattle.std.proofs.Common.{ℕ, List, Option, OnOk, subst}
use Rattle.node_schedule.specs.Answers.{Says}
use Rattle.node_schedule.specs.Safety.{IsSafeRun}
use Rattle.node_schedule.specs.Schedule.{scheduled_by}
use Rattle.node_schedule.proofs.reading.read.Goals as goal

pub returns-clause-says : goal.returns-clause-says
returns-clause-says c =
    subst (λ (p : List ℕ × Option (List ℕ)). Says c.read_halves.result (scheduled_by p))
    c.halves.ensures.value c.read_halves.ensures.says

pub returns-clause-safe : goal.returns-clause-safe
returns-clause-safe c =
    subst (λ (p : List ℕ × Option (List ℕ)). OnOk c.read_halves.result (IsSafeRun (scheduled_by p)))
    c.halves.ensures.value c.read_halves.ensures.safe
