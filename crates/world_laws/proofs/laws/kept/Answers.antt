-- No acknowledged lease is forgotten.
use Rattle.std.proofs.Common.{refl}
use Rattle.world_spec.specs.Events.{world}
use Rattle.world_laws.proofs.KeptLeases.{grants_kept}
use Rattle.world_laws.proofs.laws.kept.Goals as goal

pub returns : goal.returns
returns c = λ cfg sound bs named. grants_kept cfg sound (world cfg bs)
    (record { events = bs; named = named; is = refl })
