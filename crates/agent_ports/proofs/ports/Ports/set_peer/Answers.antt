use Rattle.agent_ports.proofs.Fullness.{known_peer}
use Rattle.agent_ports.proofs.ports.Ports.set_peer.Goals as goal

pub invariant_of-self : goal.invariant_of-self
invariant_of-self c =
    known_peer c.self.inside.full c.renumber.new.full c.args.key.now c.args.peer c.args.n c.self.inside.flows
    c.set_peer.new.self
    c.self.inside.held
    c.find_private.result
    c.self.invariant
    c.renumber.ensures
    c.find_private.ensures.own
    c.set_peer.ensures
