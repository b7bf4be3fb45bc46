use Rattle.std.proofs.Common.{arith}
use Rattle.wire_core.specs.Numbers.{AreBytes}
use Rattle.wire_core.proofs.CommandLaws.{value_shorter}
use Rattle.wire_core.proofs.value.Value.read.Goals as goal

pub overflow_sub-result : goal.overflow_sub-result
overflow_sub-result c =
    let bytes : AreBytes c.args.bytes.now = λ k. omega (arith, c.type_inv.bytes k) in
    value_shorter c.args.bytes.now (_, c.in-Ok.rest.now) bytes c.in-Ok.ensures
