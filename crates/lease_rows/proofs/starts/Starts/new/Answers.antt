use Rattle.std.proofs.Common.{◌≡◌, ◌*◌, length, arith}
use Rattle.lease_rows.proofs.StartBlocks.{none_set, resized_none}
use Rattle.lease_rows.proofs.starts.Starts.new.Goals as goal

pub invariant_of-result : goal.invariant_of-result
invariant_of-result c =
    let free = resized_none _ _ (64 * c.args.blocks) _ c.in_ok-resize.ensures.items c.new-free.ensures.items in
    let blocks = resized_none _ _ c.args.blocks _ c.in_ok-resize-2.ensures.items c.new-summary.ensures.items in
    let long : length c.resize.new.self.items ≡ 64 * c.args.blocks = omega (arith, c.in_ok-resize.ensures.len) in
    let short : length c.resize-2.new.self.items ≡ c.args.blocks = omega (arith, c.in_ok-resize-2.ensures.len) in
    record {
      sums = none_set 64 c.resize-2.new.self.items c.resize.new.self.items blocks free (omega (arith, long, short));
      few = omega (arith, short, c.requires);
    }
