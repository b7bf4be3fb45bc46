-- No two machines hold one range, and no two connections have one end.
use Rattle.std.proofs.Common.{refl}
use Rattle.world_spec.specs.Events.{world}
use Rattle.world_laws.proofs.Ends.{conns_apart, held_once}
use Rattle.world_laws.proofs.Leased.{held_are_leased}
use Rattle.world_laws.proofs.laws.safety.Goals as goal

pub returns-clause-leased : goal.returns-clause-leased
returns-clause-leased c = λ cfg sound bs named. held_are_leased cfg sound (world cfg bs)
    (record { events = bs; named = named; is = refl })

pub returns-clause-once : goal.returns-clause-once
returns-clause-once c = λ cfg sound bs named. held_once cfg sound (world cfg bs)
    (record { events = bs; named = named; is = refl })

pub returns-clause-ends : goal.returns-clause-ends
returns-clause-ends c = λ cfg sound bs named. conns_apart cfg sound (world cfg bs)
    (record { events = bs; named = named; is = refl })
