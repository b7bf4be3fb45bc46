use Rattle.std.proofs.Common.{◌≤◌, length, arith}
use Rattle.wire_core.specs.Views.{pairs_of}
use Rattle.wire_core.proofs.LengthLaws.{reserve_is_long, granted_is_long, release_is_long, freed_is_long, up_is_long}
use Rattle.wire_core.proofs.MuxBootLaws.{length-pairs_of, pairs_few}
use Rattle.wire_core.proofs.command.Command.write.Goals as goal

pub overflow_add-pairs : goal.overflow_add-pairs
overflow_add-pairs c =
    let writable = rw c.in-Granted.is at c.requires in
    let few : length c.in-Granted.pairs.now ≤ 160 = pairs_few c.in-Granted.pairs.now writable.0.1.few writable.1 in
    omega arith

pub put_granted-requires-clause-few : goal.put_granted-requires-clause-few
put_granted-requires-clause-few c =
    let writable = rw c.in-Granted.is at c.requires in
    pairs_few c.in-Granted.pairs.now writable.0.1.few writable.1

pub returns-in_err-reserve-in-Reserve-clause-room : goal.returns-in_err-reserve-in-Reserve-clause-room
returns-in_err-reserve-in-Reserve-clause-room c = λ room.
    let long = reserve_is_long c.in-Reserve.agent c.in-Reserve.boot c.in-Reserve.machine c.in-Reserve.seq in
    absurd (omega (arith, rw c.in-Reserve.is at room, long, c.in_err-reserve-in-Reserve.ensures.full))

pub returns-in_err-reserve-in-Granted-clause-room : goal.returns-in_err-reserve-in-Granted-clause-room
returns-in_err-reserve-in-Granted-clause-room c = λ room.
    let writable = rw c.in-Granted.is at c.requires in
    let pairs = c.in-Granted.pairs.now in
    let long = granted_is_long c.in-Granted.n (pairs_of pairs) in
    absurd
    (omega (
      arith,
      rw c.in-Granted.is at room,
      long,
      length-pairs_of pairs,
      writable.1,
      c.in_err-reserve-in-Granted.ensures.full,
    ))

pub returns-in_err-reserve-in-Release-clause-room : goal.returns-in_err-reserve-in-Release-clause-room
returns-in_err-reserve-in-Release-clause-room c = λ room.
    let long = release_is_long c.in-Release.n in
    absurd (omega (arith, rw c.in-Release.is at room, long, c.in_err-reserve-in-Release.ensures.full))

pub returns-in_err-reserve-in-Freed-clause-room : goal.returns-in_err-reserve-in-Freed-clause-room
returns-in_err-reserve-in-Freed-clause-room c = λ room.
    let long = freed_is_long c.in-Freed.n in
    absurd (omega (arith, rw c.in-Freed.is at room, long, c.in_err-reserve-in-Freed.ensures.full))

pub returns-in_err-reserve-in-Up-clause-room : goal.returns-in_err-reserve-in-Up-clause-room
returns-in_err-reserve-in-Up-clause-room c = λ room.
    let long = up_is_long c.in-Up.agent c.in-Up.boot in
    absurd (omega (arith, rw c.in-Up.is at room, long, c.in_err-reserve-in-Up.ensures.full))
