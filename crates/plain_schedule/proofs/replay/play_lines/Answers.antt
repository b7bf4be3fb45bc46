use Rattle.std.proofs.Common.{◌≡◌, List, ℕ, Result, sym, arith, subst, string_bytes}
use Rattle.std.proofs.Common.{Ok, Err}
use Rattle.std.specs.Result.{IsErrAnd}
use Rattle.plain_schedule.specs.declared.replay.PlainFault.{PlainFault}
use Rattle.plain_schedule.specs.declared.replay.PlainFault.TheVariants.{NoMemory}
use Rattle.plain_schedule.specs.Answers.{Fails, Plays}
use Rattle.plain_schedule.proofs.LineByLine.{line_goes, line_stops, lines_end}
use Rattle.plain_schedule.proofs.replay.play_lines.Goals as goal

pub returns-then-not-branch : goal.returns-then-not-branch
returns-then-not-branch c =
    let step = rw c.if-not-branch.true at c.in_ok-play_line.ensures.step in
    let so_far = rw (c.in-Some.is, c.cut.ensures) at c.loop-left.invariant.so_far in
    line_stops c.loop-left.state c.loop-left.number (string_bytes c.loop-left.out) c.cut.result.0.now _ _ step so_far

pub loop-left-preserved : goal.loop-left-preserved
loop-left-preserved c =
    let step = rw c.if-not-branch.false at c.in_ok-play_line.ensures.step in
    let so_far = rw (c.in-Some.is, c.cut.ensures) at c.loop-left.invariant.so_far in
    let room = rw (c.in-Some.is, c.cut.ensures) at c.loop-left.invariant.room in
    record {
      so_far =
          line_goes c.loop-left.state c.play_line.new.state c.loop-left.number (string_bytes c.loop-left.out)
          (string_bytes c.play_line.new.out) c.cut.result.0.now _ _ step so_far;
      room = omega (arith, room);
      slots = omega (arith, c.in_ok-play_line.ensures.slots);
    }

pub returns : goal.returns
returns c =
    let so_far = rw c.in_default.is at c.loop-left.invariant.so_far in
    lines_end c.loop-left.state c.loop-left.number (string_bytes c.loop-left.out) _ so_far

out_of_memory : (r : Result (Unit {0}) PlainFault) (text : List ℕ) (wanted : Result (List ℕ) ℕ)
    → IsErrAnd r (λ e. e ≡ NoMemory) → Plays r text wanted
out_of_memory (Ok done) text wanted is = absurd is
out_of_memory (Err fault) text wanted is = subst (λ (f : PlainFault). Fails f wanted) (sym is) tt

pub returns-in_err-play_line : goal.returns-in_err-play_line
returns-in_err-play_line c = out_of_memory _ _ _ c.from_residual.ensures.1
