use Rattle.plain_schedule.proofs.TableSteps.{kept_by}
use Rattle.plain_schedule.proofs.state.PlainState.ask.Goals as goal

pub invariant_of-self : goal.invariant_of-self
invariant_of-self c = (
  rw c.ask.ensures.vips c.self.invariant.0,
  kept_by c.self.inside.table c.ask.new.table c.self.inside.opened c.self.inside.full c.ask.ensures.kept
      c.self.invariant.1,
)
