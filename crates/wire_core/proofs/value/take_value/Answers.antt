use Rattle.std.proofs.Common.{arith}
use Rattle.wire_core.specs.Numbers.{AreBytes}
use Rattle.wire_core.specs.Reading.{value_at}
use Rattle.wire_core.proofs.WalkLaws.{value_read, known_fault}
use Rattle.wire_core.proofs.value.take_value.Goals as goal

pub overflow_sub-bytes : goal.overflow_sub-bytes
overflow_sub-bytes c =
    let bytes : AreBytes c.args.bytes.now = λ k. omega (arith, c.type_inv.bytes k) in
    (value_read c.args.bytes.now c.in-Ok.rest.now bytes c.in-Ok.ensures).shorter

pub invariant_of-result : goal.invariant_of-result
invariant_of-result c =
    let bytes : AreBytes c.args.bytes.now = λ k. omega (arith, c.type_inv.bytes k) in
    rw c.split_at.ensures.front (value_read c.args.bytes.now c.in-Ok.rest.now bytes c.in-Ok.ensures).again

pub returns-in-Ok : goal.returns-in-Ok
returns-in-Ok c =
    let bytes : AreBytes c.args.bytes.now = λ k. omega (arith, c.type_inv.bytes k) in
    rw c.split_at.ensures.front (value_read c.args.bytes.now c.in-Ok.rest.now bytes c.in-Ok.ensures).read

pub returns-in-Err : goal.returns-in-Err
returns-in-Err c = known_fault (value_at c.args.bytes.now) _ c.in-Err.ensures
