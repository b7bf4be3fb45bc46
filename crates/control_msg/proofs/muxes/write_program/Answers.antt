use Rattle.std.proofs.Common.{arith}
use Rattle.control_msg.proofs.LengthLaws.{program_is_long}
use Rattle.control_msg.proofs.muxes.write_program.Goals as goal

pub returns-in_err-reserve-clause-room : goal.returns-in_err-reserve-clause-room
returns-in_err-reserve-clause-room c = λ room.
    let long = program_is_long c.args.epoch c.args.boot c.args.n c.args.vip c.args.start c.args.machine in
    absurd (omega (arith, room, long, c.in_err-reserve.ensures.full))
