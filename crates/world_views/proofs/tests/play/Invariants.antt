use Rattle.std.proofs.Common.{IsSome}
use Rattle.vip_config.specs.Queries.{socket_of}
use Rattle.world_model.specs.Sound.{IsSound}
use Rattle.world_views.proofs.tests.play.Given as goal

abbrev pub invariant-loop-event : goal.invariant-loop-event
invariant-loop-event l = IsSound (λ cfg who. IsSome (socket_of cfg who)) l.world
