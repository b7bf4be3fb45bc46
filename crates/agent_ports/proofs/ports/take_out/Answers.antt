use Rattle.std.proofs.Common.{rules, ◌≡◌, ◌∙◌, ap, sym, subst, Some, None, true, arith}
use Rattle.wire_core.specs.declared.flow.FlowKey.{FlowKey}
use Rattle.agent_spec.specs.Connections.{private_key}
use Rattle.agent_ports.proofs.Fullness.{known_closed}
use Rattle.agent_ports.proofs.ports.take_out.Goals as goal

pub returns-in-Some-clause-known : goal.returns-in-Some-clause-known
returns-in-Some-clause-known c =
    known_closed c.args.full.now c.lower.new.full c.private_key.result c.args.flows.now c.close.new.self c.args.held.now
    (Some c.in-Some.closed)
    c.requires
    c.lower.ensures.top
    c.lower.ensures.below
    c.lower.ensures.here
    (λ x there hit. sym c.in-Some.is ∙ c.close.ensures.own x there hit)
    c.close.ensures.left

pub returns-in_default-clause-known : goal.returns-in_default-clause-known
returns-in_default-clause-known c =
    known_closed c.args.full.now c.args.full.now c.private_key.result c.args.flows.now c.close.new.self c.args.held.now
    None
    c.requires
    c.requires.top
    (λ e. omega arith)
    tt
    (λ x there hit. sym c.in_default.is ∙ c.close.ensures.own x there hit)
    c.close.ensures.left
