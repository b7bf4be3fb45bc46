-- Why commands are in the log.
use Rattle.world_laws.proofs.ReasonLaws.{log_has_reasons, queues}
use Rattle.world_laws.proofs.laws.reasons.Goals as goal

pub returns-clause-queues : goal.returns-clause-queues
returns-clause-queues c = queues

pub returns-clause-log : goal.returns-clause-log
returns-clause-log c = log_has_reasons
