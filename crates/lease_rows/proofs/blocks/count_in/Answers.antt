use Rattle.std.proofs.Common.{take, arith}
use Rattle.std.proofs.lemmas.List.{length-take-le}
use Rattle.std.proofs.lemmas.List.Sums.{count_by-le-length}
use Rattle.lease_rows.specs.Blocks.{is_in}
use Rattle.lease_rows.proofs.blocks.count_in.Goals as goal

pub overflow_add-count : goal.overflow_add-count
overflow_add-count c =
    let few = count_by-le-length (is_in c.args.phase) (take c.loop-i.i c.args.entries.now) in
    let long = length-take-le c.loop-i.i c.args.entries.now (omega arith) in
    omega (arith, few, long, c.loop-i.invariant, c.requires)
