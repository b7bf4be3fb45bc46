use Rattle.std.proofs.Common.{arith, refl, sym}
use Rattle.node_schedule.proofs.Lines.{dashes_found, dashes_none, dashes_past, total_parts}
use Rattle.node_schedule.proofs.text.dashes_at.Goals as goal

pub loop-left-init : goal.loop-left-init
loop-left-init c =
    let all = total_parts 10 c.args.text.now in
    record {
      so_far = refl;
      within = omega (arith, all);
    }

pub returns-then-is_dashes-clause-at : goal.returns-then-is_dashes-clause-at
returns-then-is_dashes-clause-at c =
    let so_far = rw (c.in-Some.is, c.cut.ensures) at c.loop-left.invariant.so_far in
    let is = rw c.if-is_dashes.true at c.is_dashes.ensures in
    sym (dashes_found c.loop-left.at c.cut.result.0.now _ _ (sym is) so_far)

pub returns-then-is_dashes-clause-within : goal.returns-then-is_dashes-clause-within
returns-then-is_dashes-clause-within c =
    let within = rw (c.in-Some.is, c.cut.ensures) at c.loop-left.invariant.within in
    omega (arith, within)

pub loop-left-preserved : goal.loop-left-preserved
loop-left-preserved c =
    let so_far = rw (c.in-Some.is, c.cut.ensures) at c.loop-left.invariant.so_far in
    let within = rw (c.in-Some.is, c.cut.ensures) at c.loop-left.invariant.within in
    let is = rw c.if-is_dashes.false at c.is_dashes.ensures in
    record {
      so_far = dashes_past c.loop-left.at c.cut.result.0.now _ _ (sym is) so_far;
      within = omega (arith, within);
    }

pub returns-clause-at : goal.returns-clause-at
returns-clause-at c =
    let so_far = rw c.in_default.is at c.loop-left.invariant.so_far in
    sym (dashes_none c.loop-left.at _ so_far)
