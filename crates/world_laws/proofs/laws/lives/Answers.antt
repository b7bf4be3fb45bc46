-- The lives of leases.
use Rattle.std.proofs.Common.{refl}
use Rattle.world_spec.specs.Events.{world}
use Rattle.world_laws.proofs.Living.{lives_go_on, lives_in_world}
use Rattle.world_laws.proofs.laws.lives.Goals as goal

pub returns-clause-order : goal.returns-clause-order
returns-clause-order c =
    λ cfg sound bs named. lives_in_world cfg sound (world cfg bs) (record { events = bs; named = named; is = refl })

pub returns-clause-on : goal.returns-clause-on
returns-clause-on c =
    λ cfg sound bs named b is. lives_go_on cfg sound (world cfg bs) b (record { events = bs; named = named; is = refl }) is
