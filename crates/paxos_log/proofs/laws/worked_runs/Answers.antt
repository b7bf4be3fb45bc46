use Rattle.paxos_log.proofs.WorkedRuns.{chosen_run, inheriting_run, inherited_run, catching_run, nothing_run}
use Rattle.paxos_log.proofs.laws.worked_runs.Goals as goal

pub returns-clause-chosen : goal.returns-clause-chosen
returns-clause-chosen c = chosen_run

pub returns-clause-inheriting : goal.returns-clause-inheriting
returns-clause-inheriting c = inheriting_run

pub returns-clause-inherited : goal.returns-clause-inherited
returns-clause-inherited c = inherited_run

pub returns-clause-catching : goal.returns-clause-catching
returns-clause-catching c = catching_run

pub returns-clause-nothing : goal.returns-clause-nothing
returns-clause-nothing c = nothing_run
