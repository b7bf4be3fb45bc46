use Rattle.std.proofs.Common.{arith}
use Rattle.control_msg.proofs.LengthLaws.{grant_is_long}
use Rattle.control_msg.proofs.leases.write_grant.Goals as goal

pub returns-in_err-reserve-clause-room : goal.returns-in_err-reserve-clause-room
returns-in_err-reserve-clause-room c = λ room.
    let long = grant_is_long c.args.boot c.args.machine c.args.seq c.args.n c.args.vip c.args.start in
    absurd (omega (arith, room, long, c.in_err-reserve.ensures.full))
