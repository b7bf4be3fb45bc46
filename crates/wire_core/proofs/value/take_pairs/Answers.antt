use Rattle.std.proofs.Common.{arith}
use Rattle.wire_core.specs.Numbers.{AreBytes}
use Rattle.wire_core.specs.Reading.{mux_boots_at}
use Rattle.wire_core.proofs.WalkLaws.{pairs_read, known_fault}
use Rattle.wire_core.proofs.value.take_pairs.Goals as goal

pub overflow_sub-bytes : goal.overflow_sub-bytes
overflow_sub-bytes c =
    let bytes : AreBytes c.args.bytes.now = λ k. omega (arith, c.type_inv.bytes k) in
    (pairs_read c.args.count c.args.bytes.now c.in-Ok.after.now bytes c.in-Ok.ensures).shorter

pub returns-in-Ok : goal.returns-in-Ok
returns-in-Ok c =
    let bytes : AreBytes c.args.bytes.now = λ k. omega (arith, c.type_inv.bytes k) in
    rw c.split_at.ensures.front (pairs_read c.args.count c.args.bytes.now c.in-Ok.after.now bytes c.in-Ok.ensures).read

pub returns-in-Err : goal.returns-in-Err
returns-in-Err c = known_fault (mux_boots_at c.args.count 0 c.args.bytes.now) _ c.in-Err.ensures
