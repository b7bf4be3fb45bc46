-- A settle is its deliveries.
use Rattle.world_spec.proofs.Settles.{applied_is, end_is_world}
use Rattle.world_spec.proofs.Firsts.{run_world}
use Rattle.world_spec.proofs.laws.schedules.Goals as goal

pub returns-clause-event : goal.returns-clause-event
returns-clause-event c = applied_is

pub returns-clause-end : goal.returns-clause-end
returns-clause-end c = end_is_world

pub returns-clause-run : goal.returns-clause-run
returns-clause-run c = run_world
