use Rattle.agent_ports.proofs.Machines.{indexed_counted}
use Rattle.agent_ports.proofs.ranges.HeldRanges.count.Goals as goal

pub invariant_of-self : goal.invariant_of-self
invariant_of-self c =
    indexed_counted c.args.n c.args.change c.self.inside.items.items _ _ c.self.invariant c.count.ensures
