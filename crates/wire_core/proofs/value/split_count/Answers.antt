use Rattle.std.proofs.Common.{arith}
use Rattle.wire_core.specs.Numbers.{AreBytes}
use Rattle.wire_core.proofs.WalkLaws.{value_few, value_some, counted_at}
use Rattle.wire_core.proofs.value.split_count.Goals as goal

pub unreachable-requires : goal.unreachable-requires
unreachable-requires c = let n = value_some c.args.bytes.now c.requires in omega arith

pub returns-clause-count : goal.returns-clause-count
returns-clause-count c = (counted_at c.args.bytes.now c.requires).len

pub returns-clause-read : goal.returns-clause-read
returns-clause-read c = (counted_at c.args.bytes.now c.requires).read

pub returns-clause-ok : goal.returns-clause-ok
returns-clause-ok c = (counted_at c.args.bytes.now c.requires).ok

pub returns-clause-few : goal.returns-clause-few
returns-clause-few c =
    let bytes : AreBytes c.args.bytes.now = λ k. omega (arith, c.type_inv.bytes k) in
    value_few c.args.bytes.now bytes c.requires
