use Rattle.paxos_laws.proofs.Named.{log_only_grows, step_adds, learned_stands, log_was_learned, chosen_stands, longest_has_all, none_is_longer}
use Rattle.paxos_laws.proofs.laws.common_log.Goals as goal

pub returns-clause-grows : goal.returns-clause-grows
returns-clause-grows c = log_only_grows

pub returns-clause-adds : goal.returns-clause-adds
returns-clause-adds c = step_adds

pub returns-clause-longest : goal.returns-clause-longest
returns-clause-longest c = longest_has_all

pub returns-clause-bound : goal.returns-clause-bound
returns-clause-bound c = none_is_longer

pub returns-clause-learned : goal.returns-clause-learned
returns-clause-learned c = learned_stands

pub returns-clause-source : goal.returns-clause-source
returns-clause-source c = log_was_learned

pub returns-clause-chosen : goal.returns-clause-chosen
returns-clause-chosen c = chosen_stands
