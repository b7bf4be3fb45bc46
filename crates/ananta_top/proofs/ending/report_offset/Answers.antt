use Rattle.std.proofs.Common.{codes}
use Rattle.std.specs.Fmt.{decimal}
use Rattle.sink_text.proofs.Written.{append_then}
use Rattle.ananta_top.proofs.ending.report_offset.Goals as goal

pub returns-clause-ok : goal.returns-clause-ok
returns-clause-ok g c =
    append_then _ _ _ _ _
    (append_then _ _ _ (codes " ") (decimal c.args.offset) c.in_ok-write_all.ensures.ok c.in_ok-report_number.ensures.ok)
    c.in_ok-write_all-2.ensures.ok
