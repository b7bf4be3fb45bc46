use Rattle.std.proofs.Common.{arith}
use Rattle.control_msg.proofs.LengthLaws.{number_is_long}
use Rattle.control_msg.proofs.fields.write_number.Goals as goal

pub returns-in_err-reserve-clause-room : goal.returns-in_err-reserve-clause-room
returns-in_err-reserve-clause-room c = λ room.
    let long = number_is_long c.args.kind c.args.a in
    absurd (omega (arith, room, long, c.in_err-reserve.ensures.full))
