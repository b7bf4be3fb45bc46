use Rattle.std.proofs.Common.{arith}
use Rattle.control_msg.proofs.LengthLaws.{denied_is_long}
use Rattle.control_msg.proofs.leases.write_denied.Goals as goal

pub returns-in_err-reserve-clause-room : goal.returns-in_err-reserve-clause-room
returns-in_err-reserve-clause-room c = λ room.
    let long = denied_is_long c.args.boot c.args.machine c.args.seq c.args.reason c.args.number in
    absurd (omega (arith, room, long, c.in_err-reserve.ensures.full))
