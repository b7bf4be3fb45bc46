use Rattle.std.proofs.Common.{Some, None, ap, ◌∙◌, set, subst}
use Rattle.lease_spec.specs.Table.{at_phase}
use Rattle.lease_rows.specs.Entries.{IsPlace, with_row}
use Rattle.lease_rows.proofs.Places.{map_lacks, set_read}
use Rattle.lease_rows.proofs.entries.set_phase.Goals as goal

pub returns-in-Some-clause-entries : goal.returns-in-Some-clause-entries
returns-in-Some-clause-entries c =
    let at = subst (IsPlace c.args.n c.as_slice.result.now) c.in-Some.is c.place_of.ensures in
    let here = subst (λ es. IsPlace c.args.n es (Some c.in-Some.i)) c.as_slice.ensures.entries at in
    c.put.ensures.items ∙ ap (set c.args.entries.now.items c.in-Some.i) c.at_phase-entry.ensures
    ∙ set_read c.args.n (with_row (at_phase c.args.phase)) c.args.entries.now.items c.as_slice-in-Some.result.now c.in-Some.i _ c.as_slice-in-Some.ensures.entries c.requires here

pub returns-in_default-clause-entries : goal.returns-in_default-clause-entries
returns-in_default-clause-entries c =
    let at = subst (IsPlace c.args.n c.as_slice.result.now) c.in_default.is c.place_of.ensures in
    map_lacks c.args.n (with_row (at_phase c.args.phase)) c.args.entries.now.items (subst (λ es. IsPlace c.args.n es None) c.as_slice.ensures.entries at)
