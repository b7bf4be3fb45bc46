use Rattle.agent_ports.proofs.Ordered.{place_is}
use Rattle.agent_ports.proofs.held.place_for.Goals as goal

pub returns-clause-place : goal.returns-clause-place
returns-clause-place c = place_is c.args.n c.args.held.now c.split_point.result c.split_point.ensures
