use Rattle.paxos_laws.proofs.Named.{leader_owns, promise_is_bound, leader_is_covered, covered_lasts}
use Rattle.paxos_laws.proofs.laws.leading.Goals as goal

pub returns-clause-owns : goal.returns-clause-owns
returns-clause-owns c = leader_owns

pub returns-clause-bound : goal.returns-clause-bound
returns-clause-bound c = promise_is_bound

pub returns-clause-covered : goal.returns-clause-covered
returns-clause-covered c = leader_is_covered

pub returns-clause-lasts : goal.returns-clause-lasts
returns-clause-lasts c = covered_lasts
