use Rattle.worked_run.proofs.AgentsComputed.{only_primary, asks, asks_again, queues, denies, returns, ups}
use Rattle.worked_run.proofs.AgentsComputed.{proposes_after}
use Rattle.worked_run.proofs.managers.agents_rows.Goals as goal

pub returns-clause-only_primary : goal.returns-clause-only_primary
returns-clause-only_primary c = only_primary

pub returns-clause-asks : goal.returns-clause-asks
returns-clause-asks c = asks

pub returns-clause-asks_again : goal.returns-clause-asks_again
returns-clause-asks_again c = asks_again

pub returns-clause-queues : goal.returns-clause-queues
returns-clause-queues c = queues

pub returns-clause-denies : goal.returns-clause-denies
returns-clause-denies c = denies

pub returns-clause-returns : goal.returns-clause-returns
returns-clause-returns c = returns

pub returns-clause-ups : goal.returns-clause-ups
returns-clause-ups c = ups

pub returns-clause-proposes_after : goal.returns-clause-proposes_after
returns-clause-proposes_after c = proposes_after
