use Rattle.std.proofs.Common.{◌≢◌, ◌<◌, ◌≤◌, ◌*◌, ◌==◌, false, length, get_or, set, take, drop, sym, ap, ◌∙◌, arith, true≢false}
use Rattle.std.proofs.lemmas.List.{length-set, get_or-set_same, get_or-set_other}
use Rattle.std.proofs.lemmas.Bool.{eqb-true, eq-eqb}
use Rattle.lease_rows.specs.Starts.{any_set}
use Rattle.lease_rows.proofs.Indexed.{by_test}
use Rattle.lease_rows.proofs.StartBlocks.{summed}
use Rattle.lease_rows.proofs.starts.sum_up.Goals as goal

pub loop-block-preserved : goal.loop-block-preserved
loop-block-preserved c =
    let blocks = c.loop-block.blocks in
    let block = c.loop-block.block in
    let some = c.any_in_block.result in
    record {
      count = length-set blocks block some ∙ c.loop-block.invariant.count;
      each = λ k within. by_test (k == block)
          (λ hit.
          let same = eqb-true k block hit in
          let inside : block < length blocks = omega (arith, c.loop-block.invariant.count, c.loop-block-test.true) in
          ap (λ i. get_or (set blocks block some) i false) same ∙ get_or-set_same blocks block some false inside
          ∙ c.any_in_block.ensures ∙ ap (λ i. any_set (take 64 (drop (64 * i) c.args.flags.now))) (sym same))
          (λ miss.
          let other : k ≢ block = λ same. true≢false (sym (eq-eqb k block same) ∙ miss) in
          get_or-set_other blocks block k some false other ∙ c.loop-block.invariant.each k (omega (arith, within, other)));
    }

pub returns : goal.returns
returns c =
    let count = c.loop-block.invariant.count in
    let long : length c.args.flags.now ≤ 64 * length c.loop-block.blocks = omega (arith, count, c.requires.count) in
    record {
      sums = summed 64 c.loop-block.blocks c.args.flags.now
          (λ k within. c.loop-block.invariant.each k (omega (arith, count, within, c.loop-block-test.false))) long;
      few = omega (arith, count, c.requires.few);
    }
