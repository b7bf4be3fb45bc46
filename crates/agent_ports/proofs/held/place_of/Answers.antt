use Rattle.std.proofs.Common.{arith}
use Rattle.agent_spec.specs.declared.held.Held.{Held}
use Rattle.agent_ports.specs.Leases.{held_number}
use Rattle.agent_ports.proofs.Ordered.{lacks}
use Rattle.agent_ports.proofs.held.place_of.Goals.{else-i-held-via-then-i-held+else-held-i, else-i-held-via-else-i-held}
use Rattle.agent_ports.proofs.held.place_of.Goals as goal

pub returns-else-i-held : goal.returns-else-i-held
returns-else-i-held c = elim c.else-i-held.branch [
  | else-i-held-via-then-i-held+else-held-i w ↦
      lacks Held held_number c.args.n c.args.held.now c.split_point-i.result _ c.requires c.split_point-i.ensures
      (λ within. w.if-held-i.false)
  | else-i-held-via-else-i-held w ↦ λ k d within same.
      lacks Held held_number c.args.n c.args.held.now c.split_point-i.result d c.requires c.split_point-i.ensures
      (λ inside. absurd (omega arith))
      k
      d
      within
      same
]
