use Rattle.worked_run.proofs.MachinesComputed.{ports, unsent, undelivered, for_another, resets, endpoints, redirects}
use Rattle.worked_run.proofs.MachinesComputed.{untaken}
use Rattle.worked_run.proofs.agents.machines_rows.Goals as goal

pub returns-clause-ports : goal.returns-clause-ports
returns-clause-ports c = ports

pub returns-clause-unsent : goal.returns-clause-unsent
returns-clause-unsent c = unsent

pub returns-clause-undelivered : goal.returns-clause-undelivered
returns-clause-undelivered c = undelivered

pub returns-clause-for_another : goal.returns-clause-for_another
returns-clause-for_another c = for_another

pub returns-clause-resets : goal.returns-clause-resets
returns-clause-resets c = resets

pub returns-clause-endpoints : goal.returns-clause-endpoints
returns-clause-endpoints c = endpoints

pub returns-clause-redirects : goal.returns-clause-redirects
returns-clause-redirects c = redirects

pub returns-clause-untaken : goal.returns-clause-untaken
returns-clause-untaken c = untaken
