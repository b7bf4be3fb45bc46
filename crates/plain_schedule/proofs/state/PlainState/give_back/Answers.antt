use Rattle.plain_schedule.proofs.TableSteps.{kept_by}
use Rattle.plain_schedule.proofs.state.PlainState.give_back.Goals as goal

pub invariant_of-self : goal.invariant_of-self
invariant_of-self c = (
  rw c.give_back.ensures.rules c.self.invariant.0,
  kept_by c.self.inside.table c.give_back.new.table c.self.inside.opened c.self.inside.full c.give_back.ensures.kept
      c.self.invariant.1,
)
