use Rattle.std.proofs.Common.{arith}
use Rattle.wire_core.specs.Numbers.{AreBytes}
use Rattle.wire_core.proofs.WalkLaws.{value_whole}
use Rattle.wire_core.proofs.value.spelling.Goals as goal

pub returns : goal.returns
returns c =
    let bytes : AreBytes c.args.bytes.now = λ k. omega (arith, c.type_inv.bytes k) in
    value_whole c.args.bytes.now bytes c.requires
