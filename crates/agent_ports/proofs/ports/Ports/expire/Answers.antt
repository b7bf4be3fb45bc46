use Rattle.std.proofs.Common.{rules, ◌≡◌, ◌∙◌, ap, sym, subst, Some, true}
use Rattle.wire_core.specs.Members.{In}
use Rattle.agent_spec.specs.declared.connection.Connection.{Connection}
use Rattle.agent_spec.specs.Connections.{has_private, private_key}
use Rattle.agent_ports.specs.declared.count.Count.TheVariants.{Closed}
use Rattle.agent_ports.proofs.Fullness.{known_closed, known_counted}
use Rattle.agent_ports.proofs.ports.Ports.expire.Goals as goal

pub invariant_of-self-2 : goal.invariant_of-self-2
invariant_of-self-2 c =
    known_counted c.lower.new.full c.expire.new.self c.self.inside.held c.count.new.self c.in_ok-closed.closed.n
    (Closed c.args.now)
    (known_closed c.self.inside.full c.lower.new.full (private_key c.in_ok-closed.closed) c.self.inside.flows
    c.expire.new.self
    c.self.inside.held
    (Some c.in_ok-closed.closed)
    c.self.invariant
    c.lower.ensures.top
    c.lower.ensures.below
    c.lower.ensures.here
    (λ x there hit. ap (λ (y : Connection). Some y) (sym (c.in_ok-closed.ensures.own x there hit)))
    c.in_ok-closed.ensures.left)
    c.count.ensures
