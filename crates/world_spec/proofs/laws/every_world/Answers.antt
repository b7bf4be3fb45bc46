-- The first facts of all worlds.
use Rattle.world_spec.proofs.Firsts.{senders, marked}
use Rattle.world_spec.proofs.laws.every_world.Goals as goal

pub returns-clause-senders : goal.returns-clause-senders
returns-clause-senders c = senders

pub returns-clause-marks : goal.returns-clause-marks
returns-clause-marks c = marked
