use Rattle.agent_ports.specs.declared.count.Count.TheVariants.{Closed}
use Rattle.agent_ports.proofs.Fullness.{known_counted}
use Rattle.agent_ports.proofs.ports.Ports.close.Goals as goal

pub invariant_of-self : goal.invariant_of-self
invariant_of-self c =
    known_counted c.take_out.new.full c.take_out.new.flows c.self.inside.held c.count.new.self c.args.c.now.n
    (Closed c.args.now)
    c.take_out.ensures.known
    c.count.ensures
