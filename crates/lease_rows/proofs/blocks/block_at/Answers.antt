use Rattle.std.proofs.Common.{◌*◌, length, drop, ap, arith}
use Rattle.std.proofs.lemmas.List.{length-take}
use Rattle.lease_rows.proofs.blocks.block_at.Goals as goal

pub block_of-requires : goal.block_of-requires
block_of-requires c =
    let long = length-take 64 (drop (64 * c.args.number) c.args.entries.now) in
    let same = ap length c.part.ensures in
    omega (arith, same, long)
