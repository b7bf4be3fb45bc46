use Rattle.std.proofs.Common.{arith}
use Rattle.control_msg.proofs.LengthLaws.{redirect_ask_is_long}
use Rattle.control_msg.proofs.redirects.write_redirect_ask.Goals as goal

pub returns-in_err-reserve-clause-room : goal.returns-in_err-reserve-clause-room
returns-in_err-reserve-clause-room c = λ room.
    let long = redirect_ask_is_long c.args.src c.args.sport c.args.dst c.args.dport c.args.machine in
    absurd (omega (arith, room, long, c.in_err-reserve.ensures.full))
