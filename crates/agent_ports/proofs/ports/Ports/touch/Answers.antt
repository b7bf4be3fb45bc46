use Rattle.agent_ports.proofs.Fullness.{known_touched}
use Rattle.agent_ports.proofs.ports.Ports.touch.Goals as goal

pub invariant_of-self : goal.invariant_of-self
invariant_of-self c =
    known_touched c.self.inside.full c.args.key.now c.args.now c.self.inside.flows c.touch.new.self c.self.inside.held
    c.self.invariant
    c.touch.ensures
