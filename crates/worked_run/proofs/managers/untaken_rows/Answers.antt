use Rattle.worked_run.proofs.DatagramsComputed.{datagrams}
use Rattle.worked_run.proofs.managers.untaken_rows.Goals as goal

pub returns : goal.returns
returns c = datagrams
