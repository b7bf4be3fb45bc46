use Rattle.std.proofs.Common.{rules, ◌≡◌, subst, sym}
use Rattle.agent_ports.specs.Leases.{lease_number, leases_of}
use Rattle.agent_ports.specs.Order.{Ascend}
use Rattle.agent_ports.proofs.Machines.{leases_ascend}
use Rattle.agent_ports.proofs.ranges.HeldRanges.leases.Goals as goal

pub returns-in-Some-clause-ascend : goal.returns-in-Some-clause-ascend
returns-in-Some-clause-ascend c =
    let leases : c.as_slice.result.now ≡ leases_of c.self.inside.items.items c.args.machine = search rules in
    subst (Ascend lease_number) (sym leases)
    (leases_ascend c.self.inside.items.items c.args.machine c.self.invariant.ascend)
