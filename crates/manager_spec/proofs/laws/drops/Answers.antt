use Rattle.manager_spec.proofs.Refusals.{datagram_drops, tick_notes}
use Rattle.manager_spec.proofs.laws.drops.Goals as goal

pub returns-clause-datagram : goal.returns-clause-datagram
returns-clause-datagram c = datagram_drops

pub returns-clause-tick : goal.returns-clause-tick
returns-clause-tick c = tick_notes
