use Rattle.std.proofs.Common.{rules, ◌≡◌, ◌++◌, [], Option, None, drop, sym, subst, ◌∙◌}
use Rattle.std.specs.Prelude.{string_bytes}
use Rattle.std.proofs.lemmas.Result.{err_from_is_err_and}
use Rattle.world_nodes.specs.Overflows.{IsFaultOf, Overflow}
use Rattle.world_nodes.specs.Sites.{deciding}
use Rattle.world_model.specs.Runs.{overflow_left, text_left}
use Rattle.world_model.specs.Sound.{world_of}
use Rattle.world_model.proofs.Counted.{counted_all, counted_then}
use Rattle.world_model.proofs.counting.count_run.Goals as goal

pub returns-in_err-more-clause-full : goal.returns-in_err-more-clause-full
returns-in_err-more-clause-full g c =
    let q = err_from_is_err_and c.from_residual.result c.from_residual.ensures.1 in
    rw (q.1, q.2) (subst (λ (o : Option Overflow). IsFaultOf o c.in_err-more.field-0.0) c.loop-more.invariant.room
    c.in_err-more.ensures.full)

pub returns-then-not-more-clause-counts : goal.returns-then-not-more-clause-counts
returns-then-not-more-clause-counts g c =
    let end : (text_left (deciding g.C.Core.step g.C.Core.written) g.C.Core.opened c.args.cfg.now (world_of c.advance.new.world)
    c.advance.new.progress.left (drop c.advance.new.progress.at c.args.events.now)) ≡ [] = search rules in
    let same : string_bytes c.advance.new.text ≡ string_bytes c.loop-more.text = search rules in
    counted_all c.loop-more.counts (string_bytes c.loop-more.text) (string_bytes c.advance.new.text)
    (text_left (deciding g.C.Core.step g.C.Core.written) g.C.Core.opened c.args.cfg.now (world_of c.advance.new.world)
    c.advance.new.progress.left (drop c.advance.new.progress.at c.args.events.now))
    (text_left (deciding g.C.Core.step g.C.Core.written) g.C.Core.opened c.args.cfg.now (world_of c.loop-more.world)
    c.loop-more.progress.left (drop c.loop-more.progress.at c.args.events.now))
    (text_left (deciding g.C.Core.step g.C.Core.written) g.C.Core.opened c.args.cfg.now (world_of c.args.world.now)
    0 c.args.events.now) c.loop-more.invariant.counted c.loop-more.invariant.empty same end c.in_ok-more.ensures.text

pub returns-then-not-more-clause-full : goal.returns-then-not-more-clause-full
returns-then-not-more-clause-full g c =
    let none : (overflow_left (deciding g.C.Core.step g.C.Core.written) g.C.Core.opened (world_of c.advance.new.world)
    c.advance.new.progress.left (drop c.advance.new.progress.at c.args.events.now)) ≡ None = search rules in
    sym c.loop-more.invariant.room ∙ sym c.in_ok-more.ensures.room ∙ none

pub loop-more-preserved : goal.loop-more-preserved
loop-more-preserved g c =
    record {
      sound = search rules;
      empty = search rules;
      counted = counted_then c.counts_by_pieces.ensures c.loop-more.counts c.of.result c.in_ok-counts.counts
          (string_bytes c.loop-more.text) (string_bytes c.advance.new.text) (text_left (deciding g.C.Core.step g.C.Core.written) g.C.Core.opened c.args.cfg.now (world_of c.advance.new.world)
          c.advance.new.progress.left (drop c.advance.new.progress.at c.args.events.now))
          (text_left (deciding g.C.Core.step g.C.Core.written) g.C.Core.opened c.args.cfg.now (world_of c.loop-more.world)
          c.loop-more.progress.left (drop c.loop-more.progress.at c.args.events.now))
          (text_left (deciding g.C.Core.step g.C.Core.written) g.C.Core.opened c.args.cfg.now (world_of c.args.world.now)
          0 c.args.events.now) c.loop-more.invariant.counted c.loop-more.invariant.empty c.in_ok-more.ensures.text
          c.in_ok-more.ensures.whole (search rules) (search rules);
      room = c.in_ok-more.ensures.room ∙ c.loop-more.invariant.room;
    }
