use Rattle.manager_spec.proofs.Resting.{opened_rests, turn_rests}
use Rattle.manager_spec.proofs.laws.followers_rest.Goals as goal

pub returns-clause-opened : goal.returns-clause-opened
returns-clause-opened c = opened_rests

pub returns-clause-turn : goal.returns-clause-turn
returns-clause-turn c = turn_rests
