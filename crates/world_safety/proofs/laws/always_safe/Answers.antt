-- Every moment is safe.
use Rattle.world_safety.proofs.Moments.{always_safe, end_is_safe, read_is_safe, read_names}
use Rattle.world_safety.proofs.laws.always_safe.Goals as goal

pub returns-clause-moments : goal.returns-clause-moments
returns-clause-moments c = always_safe

pub returns-clause-read : goal.returns-clause-read
returns-clause-read c = read_is_safe

pub returns-clause-ends : goal.returns-clause-ends
returns-clause-ends c = end_is_safe

pub returns-clause-shows : goal.returns-clause-shows
returns-clause-shows c =
    λ cfg sound text events read. c.acts.ensures.transcript cfg sound events (read_names cfg text events read)
