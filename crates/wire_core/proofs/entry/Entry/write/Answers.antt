use Rattle.std.proofs.Common.{arith}
use Rattle.std.proofs.lemmas.Bool.{false≢true}
use Rattle.wire_core.proofs.LengthLaws.{boot_is_long, promise_is_long, vote_is_long, learn_is_long, epoch_is_long}
use Rattle.wire_core.proofs.entry.Entry.write.Goals as goal

pub returns-in_err-reserve-in-Boot-clause-room : goal.returns-in_err-reserve-in-Boot-clause-room
returns-in_err-reserve-in-Boot-clause-room c = λ room.
    let long = boot_is_long c.in-Boot.version c.in-Boot.role c.in-Boot.index c.in-Boot.boot in
    absurd (omega (arith, rw c.in-Boot.is at room, long, c.in_err-reserve-in-Boot.ensures.full))

pub returns-in_err-write_number-in-Promise-clause-room : goal.returns-in_err-write_number-in-Promise-clause-room
returns-in_err-write_number-in-Promise-clause-room c = λ room.
    let long = promise_is_long c.in-Promise.ballot in
    absurd
    (false≢true (c.in_err-write_number-in-Promise.ensures.room (omega (arith, rw c.in-Promise.is at room, long))))

pub returns-in_err-write_value-in-Vote-clause-room : goal.returns-in_err-write_value-in-Vote-clause-room
returns-in_err-write_value-in-Vote-clause-room c = λ room.
    let long = vote_is_long c.in-Vote.ballot c.in-Vote.value in
    absurd (false≢true (c.in_err-write_value-in-Vote.ensures.room (omega (arith, rw c.in-Vote.is at room, long))))

pub returns-in_err-write_value-in-Learn-clause-room : goal.returns-in_err-write_value-in-Learn-clause-room
returns-in_err-write_value-in-Learn-clause-room c = λ room.
    let long = learn_is_long c.in-Learn.ballot c.in-Learn.value in
    absurd (false≢true (c.in_err-write_value-in-Learn.ensures.room (omega (arith, rw c.in-Learn.is at room, long))))

pub returns-in_err-write_number-in-Epoch-clause-room : goal.returns-in_err-write_number-in-Epoch-clause-room
returns-in_err-write_number-in-Epoch-clause-room c = λ room.
    let long = epoch_is_long c.in-Epoch.epoch in
    absurd (false≢true (c.in_err-write_number-in-Epoch.ensures.room (omega (arith, rw c.in-Epoch.is at room, long))))
