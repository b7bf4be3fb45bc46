-- The shapes of an event.
use Rattle.world_spec.proofs.ShapeLaws.{shape_of}
use Rattle.world_spec.proofs.Firsts.{grows}
use Rattle.world_spec.proofs.laws.shapes.Goals as goal

pub returns-clause-shape : goal.returns-clause-shape
returns-clause-shape c = shape_of

pub returns-clause-grows : goal.returns-clause-grows
returns-clause-grows c = grows
