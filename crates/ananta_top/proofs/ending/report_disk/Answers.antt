use Rattle.node_run.specs.Names.{node_name}
use Rattle.ananta_top.specs.Node.{disk_letter}
use Rattle.sink_text.proofs.Written.{append_then}
use Rattle.ananta_top.proofs.ending.report_disk.Goals as goal

pub returns-clause-ok : goal.returns-clause-ok
returns-clause-ok g c =
    append_then _ _ _ (node_name c.args.node) (disk_letter c.args.second) c.in_ok-report_node.ensures.ok
    (rw (c.disk_letter.ensures) at c.in_ok-write_all.ensures.ok)
