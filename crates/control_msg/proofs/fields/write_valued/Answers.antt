use Rattle.std.proofs.Common.{length, ap, arith}
use Rattle.control_msg.proofs.LengthLaws.{valued_is_long}
use Rattle.control_msg.proofs.fields.write_valued.Goals as goal

pub returns-in_err-reserve-clause-room : goal.returns-in_err-reserve-clause-room
returns-in_err-reserve-clause-room c = λ room.
    let long = valued_is_long c.args.kind c.args.a c.args.b c.args.value.now in
    absurd (omega (arith, room, long, c.in_err-reserve.ensures.full, ap length c.as_bytes-bytes.ensures))
