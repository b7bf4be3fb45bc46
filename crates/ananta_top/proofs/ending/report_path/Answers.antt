use Rattle.std.proofs.Common.{codes}
use Rattle.sink_text.proofs.Written.{append_then}
use Rattle.ananta_top.proofs.ending.report_path.Goals as goal

pub returns-clause-ok : goal.returns-clause-ok
returns-clause-ok g c =
    let path = rw (c.as_bytes.ensures.value) at c.in_ok-write_all-2.ensures.ok in
    append_then _ _ _ _ _
    (append_then _ _ _ (codes "config ") c.args.path.now c.in_ok-write_all.ensures.ok path)
    c.in_ok-write_all-3.ensures.ok
