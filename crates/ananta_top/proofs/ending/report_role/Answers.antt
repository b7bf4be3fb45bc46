use Rattle.std.specs.Fmt.{decimal}
use Rattle.sink_text.proofs.Written.{append_then}
use Rattle.ananta_top.proofs.ending.report_role.Goals as goal

pub returns-clause-ok : goal.returns-clause-ok
returns-clause-ok g c =
    append_then _ _ _ c.args.role.now (decimal c.args.number)
    (rw (c.as_bytes.ensures.value) at c.in_ok-write_all.ensures.ok) c.in_ok-report_number.ensures.ok
