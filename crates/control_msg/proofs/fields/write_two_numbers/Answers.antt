use Rattle.std.proofs.Common.{arith}
use Rattle.control_msg.proofs.LengthLaws.{two_numbers_are_long}
use Rattle.control_msg.proofs.fields.write_two_numbers.Goals as goal

pub returns-in_err-reserve-clause-room : goal.returns-in_err-reserve-clause-room
returns-in_err-reserve-clause-room c = λ room.
    let long = two_numbers_are_long c.args.kind c.args.a c.args.b in
    absurd (omega (arith, room, long, c.in_err-reserve.ensures.full))
