use Rattle.std.proofs.Common.{◌≡◌, ◌≢◌, ◌*◌, get_or, set, take, drop, sym, ap, ◌∙◌, arith, ⊎_elim}
use Rattle.std.proofs.lemmas.Bool.{cases_eq}
use Rattle.std.proofs.lemmas.List.{get_or-set_other, get_or-set_same, length-set}
use Rattle.lease_rows.specs.Blocks.{block_of}
use Rattle.lease_rows.proofs.blocks.renew_all.Goals as goal

pub loop-number-preserved : goal.loop-number-preserved
loop-number-preserved c =
    let blocks = c.loop-number.blocks.items in
    let at = c.loop-number.number in
    let same = length-set blocks at c.block_at.result in
    let h = c.loop-number.invariant in
    record {
      covers = rw same h.covers;
      few = rw same h.few;
      all = h.all ∙ sym same;
      len = rw same h.len;
      capacity = h.capacity;
      each = λ b d within. ⊎_elim
          (λ (here : b ≡ at).
          ap (λ x. get_or (set blocks at c.block_at.result) x d) here
          ∙ get_or-set_same blocks at c.block_at.result d (omega (arith, c.loop-number-test.true, h.all))
          ∙ c.block_at.ensures ∙ sym (ap (λ x. block_of (take 64 (drop (64 * x) c.args.entries.now))) here))
          (λ (other : b ≢ at). get_or-set_other blocks at b c.block_at.result d other ∙ h.each b d (omega (arith, within, other)))
          (cases_eq b at);
    }
