-- Each event is one good step.
use Rattle.std.proofs.Common.{refl}
use Rattle.world_spec.specs.Events.{world}
use Rattle.world_laws.proofs.InWorld.{in_order, shows, values_travel}
use Rattle.world_laws.proofs.Books.{log_grows}
use Rattle.world_laws.proofs.laws.each_event.Goals as goal

pub returns-clause-steps : goal.returns-clause-steps
returns-clause-steps c = λ cfg sound bs named b is. (shows cfg sound (world cfg bs) b
    (record { events = bs; named = named; is = refl }) (in_order cfg sound bs named) is).steps

pub returns-clause-log : goal.returns-clause-log
returns-clause-log c =
    λ cfg sound bs named b is. log_grows cfg sound (world cfg bs) b (record { events = bs; named = named; is = refl }) is

pub returns-clause-travel : goal.returns-clause-travel
returns-clause-travel c =
    λ cfg sound bs named b is. values_travel cfg sound (world cfg bs) b (record { events = bs; named = named; is = refl }) is
