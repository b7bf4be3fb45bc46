use Rattle.std.proofs.Common.{sym, subst}
use Rattle.plain_schedule.specs.declared.full_leases.RemoteEnd.{RemoteEnd}
use Rattle.plain_schedule.specs.FullLeases.{AreFull, plain}
use Rattle.plain_schedule.proofs.FullKept.{kept_tried, less_full}
use Rattle.plain_schedule.proofs.choice.find_port.Goals as goal

pub first_free-found-requires-clause-full : goal.first_free-found-requires-clause-full
first_free-found-requires-clause-full c =
    let s = plain c.args.table.now c.args.opened.now in
    let full = subst (AreFull s c.of-end.result) (sym c.up_to.ensures) (c.requires.full c.of-end.result) in
    subst (λ (e : RemoteEnd). AreFull s e c.standing-known.result) c.of-end.ensures
    (less_full s c.of-end.result c.up_to.result c.standing-known.result c.standing-known.ensures full)

pub returns-clause-kept : goal.returns-clause-kept
returns-clause-kept c =
    kept_tried (plain c.args.table.now c.args.opened.now) c.args.full.now c.set.new.self c.of-end.result
    c.first_free-found.result.1 c.set.result c.set.ensures.ok c.set.ensures.err
    (subst (λ (e : RemoteEnd). AreFull (plain c.args.table.now c.args.opened.now) e c.first_free-found.result.1)
    (sym c.of-end.ensures) c.first_free-found.ensures.full) c.requires
