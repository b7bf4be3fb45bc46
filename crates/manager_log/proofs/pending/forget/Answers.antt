use Rattle.std.proofs.Common.{arith}
use Rattle.std.proofs.lemmas.Grind.{common_steps}
use Rattle.manager_log.proofs.pending.forget.Goals as goal

pub loop-effect-preserved : goal.loop-effect-preserved
loop-effect-preserved c = record {
  acks = grind (arith, common_steps);
  current = λ peers current. c.forget_by.ensures.current peers (c.loop-effect.invariant.current peers current);
}
