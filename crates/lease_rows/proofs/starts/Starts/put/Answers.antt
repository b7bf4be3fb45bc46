use Rattle.std.proofs.Common.{◌≤◌, length, ap, arith}
use Rattle.lease_rows.proofs.StartBlocks.{covered}
use Rattle.lease_rows.proofs.starts.Starts.put.Goals as goal

pub sum_up-requires-clause-count : goal.sum_up-requires-clause-count
sum_up-requires-clause-count c =
    let enough = covered 64 c.self.inside.blocks.items c.self.inside.free.items c.self.invariant.sums in
    let few : length c.self.inside.blocks.items ≤ 128 = c.self.invariant.few in
    let here = ap length c.deref_mut.ensures.value in
    let long = ap length c.self.view_is in
    omega (arith, enough, few, here, long, c.requires.starts, c.requires.flags)
