use Rattle.paxos_laws.proofs.Named.{values_travel, each_was_proposed, tests_travel, tests_hold}
use Rattle.paxos_laws.proofs.laws.values.Goals as goal

pub returns-clause-travel : goal.returns-clause-travel
returns-clause-travel c = values_travel

pub returns-clause-proposed : goal.returns-clause-proposed
returns-clause-proposed c = each_was_proposed

pub returns-clause-tests : goal.returns-clause-tests
returns-clause-tests c = tests_travel

pub returns-clause-hold : goal.returns-clause-hold
returns-clause-hold c = tests_hold
