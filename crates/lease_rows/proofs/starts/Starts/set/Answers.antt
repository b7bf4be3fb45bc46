use Rattle.std.proofs.Common.{◌≡◌, ◌<◌, ◌+◌, ◌*◌, ◌/◌, ◌%◌, length, drop, take, set, refl, sym, ap, subst, ◌∙◌, arith}
use Rattle.lease_rows.specs.Starts.{Summarizes, any_set}
use Rattle.lease_rows.proofs.StartBlocks.{covered, set_block}
use Rattle.std.proofs.Math.ListN.{length-set}
use Rattle.lease_rows.proofs.starts.Starts.set.Goals as goal

pub index_mut-requires-2 : goal.index_mut-requires-2
index_mut-requires-2 c =
    let few = covered 64 c.self.inside.blocks.items c.self.inside.free.items c.self.invariant.sums in
    let long = ap length c.self.view_is in
    omega (arith, few, long)

pub invariant_of-self : goal.invariant_of-self
invariant_of-self c =
    let flags = set c.self.inside.free.items c.args.i c.args.free in
    let at = 64 * (c.args.i / 64) in
    let block = c.any_in_block.ensures ∙ ap (λ xs. any_set (take 64 (drop at xs))) c.deref.ensures.value in
    let here : c.args.i ≡ at + c.args.i % 64 = omega arith in
    let small : c.args.i % 64 < 64 = omega arith in
    let sums = set_block 64 c.args.free c.self.inside.blocks.items c.self.inside.free.items (c.args.i / 64) (c.args.i % 64) at c.args.i refl here small c.self.invariant.sums in
    record {
      sums = subst (λ b. Summarizes 64 (set c.self.inside.blocks.items (c.args.i / 64) b) flags) (sym block) sums;
      few = rw (length-set c.self.inside.blocks.items (c.args.i / 64) c.any_in_block.result) c.self.invariant.few;
    }
