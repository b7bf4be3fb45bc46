use Rattle.std.proofs.Common.{subst, sym, ap, ◌∙◌, map, length, ◌≤◌}
use Rattle.lease_spec.specs.Table.{cleared}
use Rattle.lease_rows.specs.Entries.{IsCounted, live_rows, next_number, Numbered}
use Rattle.lease_rows.specs.Effects.{Adds, boot_effects, cleared_effects}
use Rattle.lease_rows.proofs.LiveRows.{live_rows-with, cleared_effects-live}
use Rattle.lease_rows.proofs.Counted.{counted-cleared, next-cleared}
use Rattle.lease_rows.proofs.numbered.NumberedRows.clear_lower.Goals as goal

pub tell_cleared-requires : goal.tell_cleared-requires
tell_cleared-requires c =
    let told = ap (cleared_effects c.args.agent c.args.boot) c.as_slice.ensures.entries ∙ cleared_effects-live c.args.agent c.args.boot c.self.inside.entries.items
    ∙ ap (λ (v : Numbered). boot_effects c.args.agent c.args.boot v.rows) c.self.view_is in
    subst (λ es. length es ≤ c.args.effects.now.room) (sym told) c.requires

pub invariant_of-self : goal.invariant_of-self
invariant_of-self c =
    subst (λ es. IsCounted es c.self.inside.live) (sym c.clear_lower.ensures.items)
    (counted-cleared c.args.agent c.args.boot c.self.inside.entries.items c.self.inside.live c.self.invariant)

pub returns-clause-rows : goal.returns-clause-rows
returns-clause-rows c =
    ap live_rows c.clear_lower.ensures.items ∙ live_rows-with (cleared c.args.agent c.args.boot) c.self.inside.entries.items
    ∙ ap (λ (v : Numbered). map (cleared c.args.agent c.args.boot) v.rows) c.self.view_is

pub returns-clause-effects : goal.returns-clause-effects
returns-clause-effects c =
    let told = ap (cleared_effects c.args.agent c.args.boot) c.as_slice.ensures.entries ∙ cleared_effects-live c.args.agent c.args.boot c.self.inside.entries.items
    ∙ ap (λ (v : Numbered). boot_effects c.args.agent c.args.boot v.rows) c.self.view_is in
    subst (λ es. Adds c.args.effects.now c.tell_cleared.new.effects es) told c.tell_cleared.ensures

pub returns-clause-next : goal.returns-clause-next
returns-clause-next c =
    ap next_number c.clear_lower.ensures.items ∙ next-cleared c.args.agent c.args.boot c.self.inside.entries.items ∙ ap (λ (v : Numbered). v.next) c.self.view_is
