use Rattle.std.proofs.Common.{Result, Ok, Err, OnOk}
use Rattle.journal.proofs.Append.{first_moments, place_gate, second_moments, stands_new, adds_new}
use Rattle.journal.proofs.journal.add.Goals as goal

on_ok : {A E : Type 0} (r : Result A E) (P Q : Type 0) → (P → Q) → OnOk r P → OnOk r Q
on_ok (Ok x) P Q f p = f p
on_ok (Err e) P Q f p = tt

pub returns-in_err-stage-clause-moments : goal.returns-in_err-stage-clause-moments
returns-in_err-stage-clause-moments g c =
    let r = c.requires in
    first_moments c.args.bound c.args.end c.args.body.now r.some r.size r.entry r.bounded _ _ _ r.file
    c.stage.ensures.moments

pub write_through-requires-clause-place : goal.write_through-requires-clause-place
write_through-requires-clause-place g c =
    let r = c.requires in
    place_gate c.args.bound c.args.end c.args.body.now r.some r.size r.entry r.bounded _ _ r.file
    (c.stage.ensures.moments, c.in_ok-stage.ensures.staged)

pub returns-clause-moments : goal.returns-clause-moments
returns-clause-moments g c =
    let r = c.requires in
    second_moments c.args.bound c.args.end c.args.body.now r.some r.size r.entry r.bounded _ _ _ r.file
    (c.stage.ensures.moments, c.in_ok-stage.ensures.staged) c.write_through.ensures.moments

pub returns-clause-file : goal.returns-clause-file
returns-clause-file g c =
    let r = c.requires in
    on_ok c.write_through.result _ _
    (λ written. stands_new c.args.bound c.args.end c.args.body.now r.some r.size r.entry r.bounded
    (g.D.Disk.history c.args.disk.now) _ _ r.file (c.stage.ensures.moments, c.in_ok-stage.ensures.staged)
    (c.write_through.ensures.moments, written))
    c.write_through.ensures.written

pub returns-clause-added : goal.returns-clause-added
returns-clause-added g c =
    let r = c.requires in
    on_ok c.write_through.result _ _
    (λ written. adds_new c.args.bound c.args.end c.args.body.now r.some r.size r.entry r.bounded
    (g.D.Disk.history c.args.disk.now) _ _ r.file (c.stage.ensures.moments, c.in_ok-stage.ensures.staged)
    (c.write_through.ensures.moments, written))
    c.write_through.ensures.written
