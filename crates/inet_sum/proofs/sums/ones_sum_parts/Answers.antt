use Rattle.std.proofs.Common.{arith}
use Rattle.packet_spec.proofs.FoldLaws.{ones_sum-append}
use Rattle.inet_sum.proofs.sums.ones_sum_parts.Goals as goal

pub returns : goal.returns
returns c = rw (c.fold.ensures, c.from.ensures, c.from-2.ensures, c.ones_sum.ensures, c.ones_sum-2.ensures)
    (ones_sum-append c.args.a.now c.args.b.now c.requires (λ i. omega (arith, c.type_inv.a i))
    (λ i. omega (arith, c.type_inv.b i)))
