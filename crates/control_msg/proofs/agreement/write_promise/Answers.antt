use Rattle.std.proofs.Common.{length, ap, arith}
use Rattle.control_msg.proofs.LengthLaws.{promise_is_long}
use Rattle.control_msg.proofs.agreement.write_promise.Goals as goal

pub returns-in_err-reserve-clause-room : goal.returns-in_err-reserve-clause-room
returns-in_err-reserve-clause-room c = λ room.
    let long = promise_is_long c.args.ballot c.args.log_length c.args.vote c.args.value.now in
    absurd (omega (arith, room, long, c.in_err-reserve.ensures.full, ap length c.optional_bytes-bytes.ensures))
