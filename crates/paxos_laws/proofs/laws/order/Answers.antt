use Rattle.paxos_laws.proofs.Named.{begins, keeps, step_grows, claims}
use Rattle.paxos_laws.proofs.laws.order.Goals as goal

pub returns-clause-begins : goal.returns-clause-begins
returns-clause-begins c = begins

pub returns-clause-keeps : goal.returns-clause-keeps
returns-clause-keeps c = keeps

pub returns-clause-grows : goal.returns-clause-grows
returns-clause-grows c = step_grows

pub returns-clause-claims : goal.returns-clause-claims
returns-clause-claims c = claims
