use Rattle.std.proofs.Common.{◌≤◌, length, refl, arith}
use Rattle.inet_sum.proofs.BlockLaws.{block_more, last_block}
use Rattle.inet_sum.proofs.sums.ones_sum.Goals as goal

pub loop-left-preserved : goal.loop-left-preserved
loop-left-preserved c =
    let room : 65536 ≤ length c.loop-left.left.now = omega arith in
    let front = rw c.split_at.ensures.front at c.block_sum.ensures.sum in
    let more =
    block_more c.loop-left.sum c.block_sum.result 65536 c.loop-left.left.now _ c.loop-left.invariant.whole refl room
    front in
    record {
      whole = rw (c.fold-sum.ensures, c.from.ensures, c.split_at.ensures.back) more;
      word = c.fold-sum.type_inv;
    }

pub returns : goal.returns
returns c = rw (c.fold.ensures, c.from-2.ensures)
    (last_block c.loop-left.sum c.block_sum-2.result c.loop-left.left.now c.args.bytes.now c.loop-left.invariant.whole
    (λ i. omega (arith, c.type_inv.bytes i)) c.block_sum-2.ensures.sum)
