-- A reply reaches the machine that opened its connection.
use Rattle.std.proofs.Common.{refl}
use Rattle.world_spec.specs.Events.{world}
use Rattle.world_laws.proofs.ReplyLaws.{replies_reach}
use Rattle.world_laws.proofs.laws.replies.Goals as goal

pub returns : goal.returns
returns c = λ cfg sound bs named. replies_reach cfg sound (world cfg bs)
    (record { events = bs; named = named; is = refl })
