use Rattle.std.proofs.Common.{◌≡◌, ◌==◌, ◌∙◌, sym, ap, ℕ, List}
use Rattle.std.specs.List.{list_any}
use Rattle.agent_spec.specs.Ranges.{is_returning}
use Rattle.agent_ports.specs.Ports.{PortsState}
use Rattle.agent_ports.proofs.Giving.{none_returned}
use Rattle.agent_ports.proofs.ports.Ports.returned.Goals as goal

pub returns-else-was-clause-left : goal.returns-else-was-clause-left
returns-else-was-clause-left c =
    none_returned c.args.n c.args.self.now.ranges
    (ap (λ (p : PortsState). is_returning c.args.n p.ranges) (sym c.self.view_is)
    ∙ ap (λ (ns : List ℕ). list_any (λ m. m == c.args.n) ns) (sym c.deref.ensures.value)
    ∙ sym c.is_returning-was.ensures
    ∙ c.if-was.false)
