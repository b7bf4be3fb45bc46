use Rattle.std.proofs.Common.{rules, ◌≡◌}
use Rattle.agent_flows.specs.declared.opened.Opened.TheVariants.{Yes}
use Rattle.agent_ports.specs.declared.count.Count.TheVariants.{Opened}
use Rattle.agent_ports.proofs.Fullness.{known_counted, known_opened, open_more}
use Rattle.agent_ports.proofs.ports.Ports.open.Goals as goal

pub invariant_of-self-then-eq : goal.invariant_of-self-then-eq
invariant_of-self-then-eq c =
    let came : c.in_ok-opened.opened ≡ Yes = search rules in
    known_counted c.self.inside.full c.open.new.self c.self.inside.held c.count.new.self c.args.c.n Opened
    (known_opened c.self.inside.full c.self.inside.flows c.open.new.self c.self.inside.held c.args.c c.self.invariant
    (open_more c.self.inside.flows c.open.new.self c.args.c c.in_ok-opened.opened c.in_ok-opened.ensures.ok came))
    c.count.ensures
