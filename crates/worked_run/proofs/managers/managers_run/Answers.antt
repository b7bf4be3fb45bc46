use Rattle.worked_run.proofs.RunComputed.{elects, reserves, grants}
use Rattle.worked_run.proofs.managers.managers_run.Goals as goal

pub returns-clause-elects : goal.returns-clause-elects
returns-clause-elects c = elects

pub returns-clause-reserves : goal.returns-clause-reserves
returns-clause-reserves c = reserves

pub returns-clause-grants : goal.returns-clause-grants
returns-clause-grants c = grants
