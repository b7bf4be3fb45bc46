use Rattle.std.proofs.Common.{subst, sym, ap, ◌∙◌}
use Rattle.lease_spec.specs.Table.{move}
use Rattle.lease_rows.specs.Entries.{IsCounted, live_rows, next_number}
use Rattle.lease_rows.proofs.LiveRows.{live_rows-move}
use Rattle.lease_rows.proofs.Counted.{counted-phase, next-phase}
use Rattle.lease_rows.proofs.numbered.NumberedRows.set_phase.Goals as goal

pub invariant_of-self : goal.invariant_of-self
invariant_of-self c =
    subst (λ es. IsCounted es c.self.inside.live) (sym c.set_phase.ensures.entries)
    (counted-phase c.args.n c.args.phase c.self.inside.entries.items c.self.inside.live c.self.invariant)

pub returns-clause-rows : goal.returns-clause-rows
returns-clause-rows c =
    ap live_rows c.set_phase.ensures.entries ∙ live_rows-move c.args.n c.args.phase c.self.inside.entries.items
    ∙ ap (λ v. move c.args.n c.args.phase v.rows) c.self.view_is

pub returns-clause-next : goal.returns-clause-next
returns-clause-next c =
    ap next_number c.set_phase.ensures.entries ∙ next-phase c.args.n c.args.phase c.self.inside.entries.items ∙ ap (λ v. v.next) c.self.view_is
