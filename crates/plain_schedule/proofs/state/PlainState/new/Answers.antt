use Rattle.std.proofs.Common.{refl}
use Rattle.plain_schedule.proofs.FullKept.{kept_start}
use Rattle.plain_schedule.proofs.state.PlainState.new.Goals as goal

pub invariant_of-result : goal.invariant_of-result
invariant_of-result c =
    rw (c.in_ok-new.ensures, c.new-4.ensures, c.new.ensures, c.new-2.ensures)
    (refl, kept_start c.new-5.result c.new-5.ensures)
