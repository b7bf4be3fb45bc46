use Rattle.std.proofs.Common.{rules, arith, refl}
use Rattle.journal.proofs.Parts.{head_size}
use Rattle.journal.proofs.reading.read_head.Goals as goal

pub returns-clause-told : goal.returns-clause-told
returns-clause-told g c =
    head_size (g.D.Disk.history c.args.disk.now) c.args.at c.in_ok-got.got c.read_size.result _ c.read.new.buf
    c.in_ok-got.ensures.bytes refl (search rules) (omega (arith, c.if-got-lt5.false)) (search rules)
    (search rules) (search rules)
