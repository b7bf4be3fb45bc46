use Rattle.paxos_log.specs.World.{run, start}
use Rattle.paxos_log.proofs.Tellings.{told_on_disk, told_chosen, told_one, told_in_log, told_offered}
use Rattle.paxos_log.proofs.Runs.{inv_of}
use Rattle.paxos_log.proofs.laws.told.Goals as goal

pub returns-clause-disk : goal.returns-clause-disk
returns-clause-disk c = told_on_disk

pub returns-clause-chosen : goal.returns-clause-chosen
returns-clause-chosen c = λ es. told_chosen (run es start) (inv_of es)

pub returns-clause-one : goal.returns-clause-one
returns-clause-one c = λ es. told_one (run es start) (inv_of es)

pub returns-clause-log : goal.returns-clause-log
returns-clause-log c = λ es. told_in_log (run es start) (inv_of es)

pub returns-clause-offered : goal.returns-clause-offered
returns-clause-offered c = told_offered
