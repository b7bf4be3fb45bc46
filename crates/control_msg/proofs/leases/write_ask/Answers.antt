use Rattle.std.proofs.Common.{arith}
use Rattle.control_msg.proofs.LengthLaws.{ask_is_long}
use Rattle.control_msg.proofs.leases.write_ask.Goals as goal

pub returns-in_err-reserve-clause-room : goal.returns-in_err-reserve-clause-room
returns-in_err-reserve-clause-room c = λ room.
    let long = ask_is_long c.args.boot c.args.machine c.args.seq in
    absurd (omega (arith, room, long, c.in_err-reserve.ensures.full))
