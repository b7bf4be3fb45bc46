use Rattle.paxos_laws.proofs.Worldly.{turn_good, run_keeps, one_for_ever, log_grows_on, primary_knows_for_ever}
use Rattle.paxos_laws.proofs.Worldly.{each_was_offered, one_leads}
use Rattle.paxos_laws.proofs.laws.worlds.Goals as goal

pub returns-clause-turn : goal.returns-clause-turn
returns-clause-turn c = turn_good

pub returns-clause-keeps : goal.returns-clause-keeps
returns-clause-keeps c = run_keeps

pub returns-clause-one : goal.returns-clause-one
returns-clause-one c = one_for_ever

pub returns-clause-log : goal.returns-clause-log
returns-clause-log c = log_grows_on

pub returns-clause-knows : goal.returns-clause-knows
returns-clause-knows c = primary_knows_for_ever

pub returns-clause-offered : goal.returns-clause-offered
returns-clause-offered c = each_was_offered

pub returns-clause-leads : goal.returns-clause-leads
returns-clause-leads c = one_leads
