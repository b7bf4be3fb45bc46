use Rattle.agent_spec.proofs.Answering.{answers_drop, redirects_drop}
use Rattle.agent_spec.proofs.Passing.{machine_may_drop, wrapped_may_drop}
use Rattle.agent_spec.proofs.laws.drops.Goals as goal

pub returns-clause-machines : goal.returns-clause-machines
returns-clause-machines c = machine_may_drop

pub returns-clause-wrapped : goal.returns-clause-wrapped
returns-clause-wrapped c = wrapped_may_drop

pub returns-clause-answers : goal.returns-clause-answers
returns-clause-answers c = answers_drop

pub returns-clause-redirects : goal.returns-clause-redirects
returns-clause-redirects c = redirects_drop
