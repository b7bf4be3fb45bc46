use Rattle.std.proofs.Common.{arith}
use Rattle.control_msg.proofs.LengthLaws.{redirect_is_long}
use Rattle.control_msg.proofs.redirects.write_redirect.Goals as goal

pub returns-in_err-reserve-clause-room : goal.returns-in_err-reserve-clause-room
returns-in_err-reserve-clause-room c = λ room.
    let long =
    redirect_is_long c.args.side c.args.n c.args.src c.args.sport c.args.dst c.args.dport c.args.opener c.args.server in
    absurd (omega (arith, room, long, c.in_err-reserve.ensures.full))
