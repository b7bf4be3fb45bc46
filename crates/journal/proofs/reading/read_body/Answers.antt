use Rattle.std.proofs.Common.{rules, arith}
use Rattle.journal.proofs.Parts.{body_there, body_short}
use Rattle.journal.proofs.reading.read_body.Goals as goal

pub returns-then-got-n-clause-bytes : goal.returns-then-got-n-clause-bytes
returns-then-got-n-clause-bytes g c =
    body_there c.args.at c.args.n c.in_ok-got.got _ c.read.new.buf _ (search rules) (search rules)
    (g.D.Disk.history c.args.disk.now) c.is_entry.result c.in_ok-got.ensures.bytes
    (omega (arith, c.if-got-n.true)) (search rules)

pub returns-else-got-n-clause-bytes : goal.returns-else-got-n-clause-bytes
returns-else-got-n-clause-bytes g c =
    body_short c.args.at c.args.n c.in_ok-got.got _ c.read.new.buf _ (search rules) (search rules)
    (g.D.Disk.history c.args.disk.now) c.in_ok-got.ensures.bytes (omega (arith, c.if-got-n.false))
