use Rattle.worked_run.proofs.DirectComputed.{direct_lines, direct_refused, direct_cleared}
use Rattle.worked_run.proofs.direct.direct_run.Goals as goal

pub returns-clause-lines : goal.returns-clause-lines
returns-clause-lines c = direct_lines

pub returns-clause-refused : goal.returns-clause-refused
returns-clause-refused c = direct_refused

pub returns-clause-cleared : goal.returns-clause-cleared
returns-clause-cleared c = direct_cleared
