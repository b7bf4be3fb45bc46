use Rattle.agent_spec.proofs.Answering.{answers_leave, redirects_leave, ticks_leave}
use Rattle.agent_spec.proofs.Passing.{machine_leaves, wrapped_leaves}
use Rattle.agent_spec.proofs.laws.footprints.Goals as goal

pub returns-clause-machines : goal.returns-clause-machines
returns-clause-machines c = machine_leaves

pub returns-clause-wrapped : goal.returns-clause-wrapped
returns-clause-wrapped c = wrapped_leaves

pub returns-clause-answers : goal.returns-clause-answers
returns-clause-answers c = answers_leave

pub returns-clause-redirects : goal.returns-clause-redirects
returns-clause-redirects c = redirects_leave

pub returns-clause-tick : goal.returns-clause-tick
returns-clause-tick c = ticks_leave
