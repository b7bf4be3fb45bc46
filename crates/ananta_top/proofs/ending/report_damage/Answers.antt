use Rattle.std.proofs.Common.{codes, ◌++◌}
use Rattle.node_run.specs.Names.{node_name}
use Rattle.ananta_top.specs.Node.{disk_letter}
use Rattle.sink_text.proofs.Written.{append_then}
use Rattle.ananta_top.proofs.ending.report_damage.Goals as goal

pub returns-clause-ok : goal.returns-clause-ok
returns-clause-ok g c =
    append_then _ _ _ _ _
    (append_then _ _ _ (codes "damaged ") (node_name c.args.node ++ disk_letter c.args.second)
    c.in_ok-write_all.ensures.ok c.in_ok-report_disk.ensures.ok)
    c.in_ok-report_offset.ensures.ok
