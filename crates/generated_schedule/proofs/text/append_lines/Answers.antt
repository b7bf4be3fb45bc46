use Rattle.std.proofs.Common.{ℕ, suc, ◌≡◌, ◌-◌, string_bytes, arith}
use Rattle.rand_pcg.specs.Pcg.{pcg32}
use Rattle.generated_schedule.proofs.LineByLine.{line_more, lines_end}
use Rattle.generated_schedule.proofs.text.append_lines.Goals as goal

pub loop-left-preserved : goal.loop-left-preserved
loop-left-preserved c =
    let some = c.loop-left-test.true in
    let next : c.loop-left.left ≡ suc (c.loop-left.left - 1) = omega (arith, some) in
    record {
      so_far = line_more pcg32 c.loop-left.left (c.loop-left.left - 1) c.loop-left.time c.time_after-time.result c.next_word-word.result
          c.loop-left.words c.next_word-word.new.self (string_bytes c.loop-left.out) (string_bytes c.append_line.new.out) _
          next c.next_word-word.ensures c.time_after-time.ensures.value c.in_ok-append_line.ensures c.loop-left.invariant.so_far;
      times = omega (arith, some, c.time_after-time.ensures.within, c.loop-left.invariant.times);
    }

pub returns : goal.returns
returns c = lines_end pcg32 c.loop-left.left c.loop-left.time c.loop-left.words _ _ (omega (arith, c.loop-left-test.false)) c.loop-left.invariant.so_far
