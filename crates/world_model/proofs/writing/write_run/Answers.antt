use Rattle.std.proofs.Common.{rules, ◌≡◌, ◌≤◌, ◌++◌, [], None, drop, refl, sym, ◌∙◌, arith}
use Rattle.std.specs.Prelude.{⊤, string_bytes}
use Rattle.std.proofs.lemmas.Result.{err_from_is_err_and}
use Rattle.world_nodes.specs.Sites.{deciding}
use Rattle.world_model.specs.Runs.{Passed, overflow_left, text_left}
use Rattle.world_model.specs.Sound.{world_of}
use Rattle.world_model.proofs.Passing.{front_all, front_of, front_then, full_of, no_write, passed_as, passed_end, passed_then, rose_later}
use Rattle.world_model.proofs.writing.write_run.Goals as goal

pub returns-in_err-more-clause-front : goal.returns-in_err-more-clause-front
returns-in_err-more-clause-front g c =
    front_of (g.K.Sink.written c.args.out.now) (g.K.Sink.written c.loop-more.out) (string_bytes c.loop-more.text ++ (text_left (deciding g.C.Core.step g.C.Core.written) g.C.Core.opened c.args.cfg.now (world_of c.loop-more.world)
    c.loop-more.progress.left (drop c.loop-more.progress.at c.args.events.now))) (text_left (deciding g.C.Core.step g.C.Core.written) g.C.Core.opened c.args.cfg.now (world_of c.args.world.now)
    0 c.args.events.now)
    c.loop-more.invariant.passed

pub returns-in_err-more-clause-write : goal.returns-in_err-more-clause-write
returns-in_err-more-clause-write g c =
    let q = err_from_is_err_and c.from_residual.result c.from_residual.ensures.1 in
    rw (q.1, q.2) (no_write ⊤ (g.K.Sink.faults c.args.out.now) (g.K.Sink.faults c.loop-more.out) c.in_err-more.field-0.0)

pub returns-in_err-more-clause-full : goal.returns-in_err-more-clause-full
returns-in_err-more-clause-full g c =
    let q = err_from_is_err_and c.from_residual.result c.from_residual.ensures.1 in
    rw (q.1, q.2) (full_of ⊤ (overflow_left (deciding g.C.Core.step g.C.Core.written) g.C.Core.opened (world_of c.loop-more.world)
    c.loop-more.progress.left (drop c.loop-more.progress.at c.args.events.now))
    (overflow_left (deciding g.C.Core.step g.C.Core.written) g.C.Core.opened (world_of c.args.world.now) 0 c.args.events.now) c.in_err-more.field-0.0 c.loop-more.invariant.room
    c.in_err-more.ensures.full)

pub returns-in_err-pass_on-clause-front : goal.returns-in_err-pass_on-clause-front
returns-in_err-pass_on-clause-front g c =
    let passed : Passed (g.K.Sink.written c.args.out.now) (g.K.Sink.written c.loop-more.out) (string_bytes c.advance.new.text ++ (text_left (deciding g.C.Core.step g.C.Core.written) g.C.Core.opened c.args.cfg.now (world_of c.advance.new.world)
    c.advance.new.progress.left (drop c.advance.new.progress.at c.args.events.now))) (text_left (deciding g.C.Core.step g.C.Core.written) g.C.Core.opened c.args.cfg.now (world_of c.args.world.now)
    0 c.args.events.now) =
    passed_as (g.K.Sink.written c.args.out.now) (g.K.Sink.written c.loop-more.out) (string_bytes c.loop-more.text ++ (text_left (deciding g.C.Core.step g.C.Core.written) g.C.Core.opened c.args.cfg.now (world_of c.loop-more.world)
    c.loop-more.progress.left (drop c.loop-more.progress.at c.args.events.now)))
    (string_bytes c.advance.new.text ++ (text_left (deciding g.C.Core.step g.C.Core.written) g.C.Core.opened c.args.cfg.now (world_of c.advance.new.world)
    c.advance.new.progress.left (drop c.advance.new.progress.at c.args.events.now))) (text_left (deciding g.C.Core.step g.C.Core.written) g.C.Core.opened c.args.cfg.now (world_of c.args.world.now)
    0 c.args.events.now)
    c.in_ok-more.ensures.text c.loop-more.invariant.passed in
    front_then (g.K.Sink.written c.args.out.now) (g.K.Sink.written c.loop-more.out) (g.K.Sink.written c.pass_on.new.out) (string_bytes c.advance.new.text)
    (text_left (deciding g.C.Core.step g.C.Core.written) g.C.Core.opened c.args.cfg.now (world_of c.advance.new.world)
    c.advance.new.progress.left (drop c.advance.new.progress.at c.args.events.now)) (string_bytes c.advance.new.text ++ (text_left (deciding g.C.Core.step g.C.Core.written) g.C.Core.opened c.args.cfg.now (world_of c.advance.new.world)
    c.advance.new.progress.left (drop c.advance.new.progress.at c.args.events.now))) (text_left (deciding g.C.Core.step g.C.Core.written) g.C.Core.opened c.args.cfg.now (world_of c.args.world.now)
    0 c.args.events.now) passed refl c.pass_on.ensures.front

pub returns-in_err-pass_on-clause-write : goal.returns-in_err-pass_on-clause-write
returns-in_err-pass_on-clause-write g c =
    let q = err_from_is_err_and c.from_residual-in_err-pass_on.result c.from_residual-in_err-pass_on.ensures.1 in
    rw (q.1, q.2) (rose_later (g.K.Sink.faults c.args.out.now) (g.K.Sink.faults c.loop-more.out) (g.K.Sink.faults c.pass_on.new.out) c.loop-more.invariant.later c.in_err-pass_on.ensures.err)

pub returns-in_err-pass_on-clause-full : goal.returns-in_err-pass_on-clause-full
returns-in_err-pass_on-clause-full g c =
    let q = err_from_is_err_and c.from_residual-in_err-pass_on.result c.from_residual-in_err-pass_on.ensures.1 in
    rw (q.1, q.2) tt

pub returns-in_err-pass_long-clause-front : goal.returns-in_err-pass_long-clause-front
returns-in_err-pass_long-clause-front g c =
    let passed : Passed (g.K.Sink.written c.args.out.now) (g.K.Sink.written c.loop-more.out) (string_bytes c.advance.new.text ++ (text_left (deciding g.C.Core.step g.C.Core.written) g.C.Core.opened c.args.cfg.now (world_of c.advance.new.world)
    c.advance.new.progress.left (drop c.advance.new.progress.at c.args.events.now))) (text_left (deciding g.C.Core.step g.C.Core.written) g.C.Core.opened c.args.cfg.now (world_of c.args.world.now)
    0 c.args.events.now) =
    passed_as (g.K.Sink.written c.args.out.now) (g.K.Sink.written c.loop-more.out) (string_bytes c.loop-more.text ++ (text_left (deciding g.C.Core.step g.C.Core.written) g.C.Core.opened c.args.cfg.now (world_of c.loop-more.world)
    c.loop-more.progress.left (drop c.loop-more.progress.at c.args.events.now)))
    (string_bytes c.advance.new.text ++ (text_left (deciding g.C.Core.step g.C.Core.written) g.C.Core.opened c.args.cfg.now (world_of c.advance.new.world)
    c.advance.new.progress.left (drop c.advance.new.progress.at c.args.events.now))) (text_left (deciding g.C.Core.step g.C.Core.written) g.C.Core.opened c.args.cfg.now (world_of c.args.world.now)
    0 c.args.events.now)
    c.in_ok-more.ensures.text c.loop-more.invariant.passed in
    front_then (g.K.Sink.written c.args.out.now) (g.K.Sink.written c.loop-more.out) (g.K.Sink.written c.pass_long.new.out) (string_bytes c.advance.new.text)
    (text_left (deciding g.C.Core.step g.C.Core.written) g.C.Core.opened c.args.cfg.now (world_of c.advance.new.world)
    c.advance.new.progress.left (drop c.advance.new.progress.at c.args.events.now)) (string_bytes c.advance.new.text ++ (text_left (deciding g.C.Core.step g.C.Core.written) g.C.Core.opened c.args.cfg.now (world_of c.advance.new.world)
    c.advance.new.progress.left (drop c.advance.new.progress.at c.args.events.now))) (text_left (deciding g.C.Core.step g.C.Core.written) g.C.Core.opened c.args.cfg.now (world_of c.args.world.now)
    0 c.args.events.now) passed refl c.pass_long.ensures.front

pub returns-in_err-pass_long-clause-write : goal.returns-in_err-pass_long-clause-write
returns-in_err-pass_long-clause-write g c =
    let q = err_from_is_err_and c.from_residual-in_err-pass_long.result c.from_residual-in_err-pass_long.ensures.1 in
    rw (q.1, q.2) (rose_later (g.K.Sink.faults c.args.out.now) (g.K.Sink.faults c.loop-more.out) (g.K.Sink.faults c.pass_long.new.out) c.loop-more.invariant.later c.in_err-pass_long.ensures.err)

pub returns-in_err-pass_long-clause-full : goal.returns-in_err-pass_long-clause-full
returns-in_err-pass_long-clause-full g c =
    let q = err_from_is_err_and c.from_residual-in_err-pass_long.result c.from_residual-in_err-pass_long.ensures.1 in
    rw (q.1, q.2) tt

pub returns-then-not-more-clause-written : goal.returns-then-not-more-clause-written
returns-then-not-more-clause-written g c =
    let passed : Passed (g.K.Sink.written c.args.out.now) (g.K.Sink.written c.loop-more.out) (string_bytes c.advance.new.text ++ (text_left (deciding g.C.Core.step g.C.Core.written) g.C.Core.opened c.args.cfg.now (world_of c.advance.new.world)
    c.advance.new.progress.left (drop c.advance.new.progress.at c.args.events.now))) (text_left (deciding g.C.Core.step g.C.Core.written) g.C.Core.opened c.args.cfg.now (world_of c.args.world.now)
    0 c.args.events.now) =
    passed_as (g.K.Sink.written c.args.out.now) (g.K.Sink.written c.loop-more.out) (string_bytes c.loop-more.text ++ (text_left (deciding g.C.Core.step g.C.Core.written) g.C.Core.opened c.args.cfg.now (world_of c.loop-more.world)
    c.loop-more.progress.left (drop c.loop-more.progress.at c.args.events.now)))
    (string_bytes c.advance.new.text ++ (text_left (deciding g.C.Core.step g.C.Core.written) g.C.Core.opened c.args.cfg.now (world_of c.advance.new.world)
    c.advance.new.progress.left (drop c.advance.new.progress.at c.args.events.now))) (text_left (deciding g.C.Core.step g.C.Core.written) g.C.Core.opened c.args.cfg.now (world_of c.args.world.now)
    0 c.args.events.now)
    c.in_ok-more.ensures.text c.loop-more.invariant.passed in
    let end : (text_left (deciding g.C.Core.step g.C.Core.written) g.C.Core.opened c.args.cfg.now (world_of c.advance.new.world)
    c.advance.new.progress.left (drop c.advance.new.progress.at c.args.events.now)) ≡ [] = search rules in
    passed_end (g.K.Sink.written c.args.out.now) (g.K.Sink.written c.loop-more.out) (g.K.Sink.written c.pass_on.new.out) (string_bytes c.advance.new.text)
    (text_left (deciding g.C.Core.step g.C.Core.written) g.C.Core.opened c.args.cfg.now (world_of c.advance.new.world)
    c.advance.new.progress.left (drop c.advance.new.progress.at c.args.events.now)) (string_bytes c.advance.new.text ++ (text_left (deciding g.C.Core.step g.C.Core.written) g.C.Core.opened c.args.cfg.now (world_of c.advance.new.world)
    c.advance.new.progress.left (drop c.advance.new.progress.at c.args.events.now))) (text_left (deciding g.C.Core.step g.C.Core.written) g.C.Core.opened c.args.cfg.now (world_of c.args.world.now)
    0 c.args.events.now) passed refl end c.in_ok-pass_on.ensures.ok

pub returns-then-not-more-clause-front : goal.returns-then-not-more-clause-front
returns-then-not-more-clause-front g c =
    let passed : Passed (g.K.Sink.written c.args.out.now) (g.K.Sink.written c.loop-more.out) (string_bytes c.advance.new.text ++ (text_left (deciding g.C.Core.step g.C.Core.written) g.C.Core.opened c.args.cfg.now (world_of c.advance.new.world)
    c.advance.new.progress.left (drop c.advance.new.progress.at c.args.events.now))) (text_left (deciding g.C.Core.step g.C.Core.written) g.C.Core.opened c.args.cfg.now (world_of c.args.world.now)
    0 c.args.events.now) =
    passed_as (g.K.Sink.written c.args.out.now) (g.K.Sink.written c.loop-more.out) (string_bytes c.loop-more.text ++ (text_left (deciding g.C.Core.step g.C.Core.written) g.C.Core.opened c.args.cfg.now (world_of c.loop-more.world)
    c.loop-more.progress.left (drop c.loop-more.progress.at c.args.events.now)))
    (string_bytes c.advance.new.text ++ (text_left (deciding g.C.Core.step g.C.Core.written) g.C.Core.opened c.args.cfg.now (world_of c.advance.new.world)
    c.advance.new.progress.left (drop c.advance.new.progress.at c.args.events.now))) (text_left (deciding g.C.Core.step g.C.Core.written) g.C.Core.opened c.args.cfg.now (world_of c.args.world.now)
    0 c.args.events.now)
    c.in_ok-more.ensures.text c.loop-more.invariant.passed in
    let end : (text_left (deciding g.C.Core.step g.C.Core.written) g.C.Core.opened c.args.cfg.now (world_of c.advance.new.world)
    c.advance.new.progress.left (drop c.advance.new.progress.at c.args.events.now)) ≡ [] = search rules in
    front_all (g.K.Sink.written c.args.out.now) (g.K.Sink.written c.pass_on.new.out) (text_left (deciding g.C.Core.step g.C.Core.written) g.C.Core.opened c.args.cfg.now (world_of c.args.world.now)
    0 c.args.events.now)
    (passed_end (g.K.Sink.written c.args.out.now) (g.K.Sink.written c.loop-more.out) (g.K.Sink.written c.pass_on.new.out) (string_bytes c.advance.new.text)
    (text_left (deciding g.C.Core.step g.C.Core.written) g.C.Core.opened c.args.cfg.now (world_of c.advance.new.world)
    c.advance.new.progress.left (drop c.advance.new.progress.at c.args.events.now)) (string_bytes c.advance.new.text ++ (text_left (deciding g.C.Core.step g.C.Core.written) g.C.Core.opened c.args.cfg.now (world_of c.advance.new.world)
    c.advance.new.progress.left (drop c.advance.new.progress.at c.args.events.now))) (text_left (deciding g.C.Core.step g.C.Core.written) g.C.Core.opened c.args.cfg.now (world_of c.args.world.now)
    0 c.args.events.now) passed refl end c.in_ok-pass_on.ensures.ok)

pub returns-then-not-more-clause-full : goal.returns-then-not-more-clause-full
returns-then-not-more-clause-full g c =
    let none : (overflow_left (deciding g.C.Core.step g.C.Core.written) g.C.Core.opened (world_of c.advance.new.world)
    c.advance.new.progress.left (drop c.advance.new.progress.at c.args.events.now)) ≡ None = search rules in
    sym c.loop-more.invariant.room ∙ sym c.in_ok-more.ensures.room ∙ none

pub loop-more-preserved : goal.loop-more-preserved
loop-more-preserved g c =
    let passed : Passed (g.K.Sink.written c.args.out.now) (g.K.Sink.written c.loop-more.out) (string_bytes c.advance.new.text ++ (text_left (deciding g.C.Core.step g.C.Core.written) g.C.Core.opened c.args.cfg.now (world_of c.advance.new.world)
    c.advance.new.progress.left (drop c.advance.new.progress.at c.args.events.now))) (text_left (deciding g.C.Core.step g.C.Core.written) g.C.Core.opened c.args.cfg.now (world_of c.args.world.now)
    0 c.args.events.now) =
    passed_as (g.K.Sink.written c.args.out.now) (g.K.Sink.written c.loop-more.out) (string_bytes c.loop-more.text ++ (text_left (deciding g.C.Core.step g.C.Core.written) g.C.Core.opened c.args.cfg.now (world_of c.loop-more.world)
    c.loop-more.progress.left (drop c.loop-more.progress.at c.args.events.now)))
    (string_bytes c.advance.new.text ++ (text_left (deciding g.C.Core.step g.C.Core.written) g.C.Core.opened c.args.cfg.now (world_of c.advance.new.world)
    c.advance.new.progress.left (drop c.advance.new.progress.at c.args.events.now))) (text_left (deciding g.C.Core.step g.C.Core.written) g.C.Core.opened c.args.cfg.now (world_of c.args.world.now)
    0 c.args.events.now)
    c.in_ok-more.ensures.text c.loop-more.invariant.passed in
    record {
      sound = search rules;
      passed = passed_then (g.K.Sink.written c.args.out.now) (g.K.Sink.written c.loop-more.out) (g.K.Sink.written c.pass_long.new.out) (string_bytes c.advance.new.text)
          (text_left (deciding g.C.Core.step g.C.Core.written) g.C.Core.opened c.args.cfg.now (world_of c.advance.new.world)
          c.advance.new.progress.left (drop c.advance.new.progress.at c.args.events.now)) (string_bytes c.advance.new.text ++ (text_left (deciding g.C.Core.step g.C.Core.written) g.C.Core.opened c.args.cfg.now (world_of c.advance.new.world)
          c.advance.new.progress.left (drop c.advance.new.progress.at c.args.events.now))) (text_left (deciding g.C.Core.step g.C.Core.written) g.C.Core.opened c.args.cfg.now (world_of c.args.world.now)
          0 c.args.events.now) passed refl
          (string_bytes c.pass_long.new.text) c.in_ok-pass_long.ensures.passed;
      room = c.in_ok-more.ensures.room ∙ c.loop-more.invariant.room;
      later = omega (arith, c.loop-more.invariant.later, c.pass_long.ensures.later);
    }
