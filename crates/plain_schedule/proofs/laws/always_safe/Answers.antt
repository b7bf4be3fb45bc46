use Rattle.plain_schedule.proofs.SafetyLaws.{always_safe}
use Rattle.plain_schedule.proofs.laws.always_safe.Goals as goal

pub returns : goal.returns
returns c = always_safe
