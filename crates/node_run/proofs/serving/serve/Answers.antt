use Rattle.std.proofs.Common.{rules, refl, ◌∙◌, arith}
use Rattle.std.proofs.lemmas.Grind.{common_steps}
use Rattle.std.proofs.lemmas.Result.{err_from_is_err_and}
use Rattle.node_run.specs.Serving.{state_of}
use Rattle.node_run.proofs.Goes.{goes_none, serves_all, stops_first, then_goes, then_stops}
use Rattle.node_run.proofs.Told.{taken_more, taken_none}
use Rattle.node_run.proofs.serving.serve.Goals as goal

pub returns-in-Err-clause-stops : goal.returns-in-Err-clause-stops
returns-in-Err-clause-stops g c =
    stops_first g.C.Core.step c.args.node.now.journal.bound
    (record {
      times = g.K.Clock.times c.args.clock.now;
      answers = g.L.Link.answers c.args.link.now;
      sent = g.L.Link.sent c.args.link.now;
      state = state_of g.D.Disk.history c.args.node.now;
    })
    _ tt

pub loop-init : goal.loop-init
loop-init g c = record {
  live = search rules;
  going = goes_none g.C.Core.step c.args.node.now.journal.bound
      (record {
        times = g.K.Clock.times c.args.clock.now;
        answers = g.L.Link.answers c.args.link.now;
        sent = g.L.Link.sent c.args.link.now;
        state = state_of g.D.Disk.history c.args.node.now;
      })
      _ _ c.new-timer.ensures refl refl refl;
  taken = taken_none (g.K.Clock.times c.args.clock.now);
  later = omega arith;
  faults = omega arith;
  second = refl;
  bound = refl;
  room = search rules;
  turns = refl;
}

pub loop-preserved : goal.loop-preserved
loop-preserved g c =
    let i = c.loop.invariant in record {
      live = search rules;
      going = then_goes g.C.Core.step c.args.node.now.journal.bound
          (record {
            times = g.K.Clock.times c.args.clock.now;
            answers = g.L.Link.answers c.args.link.now;
            sent = g.L.Link.sent c.args.link.now;
            state = state_of g.D.Disk.history c.args.node.now;
          })
          (record {
            times = g.K.Clock.times c.loop.clock;
            answers = g.L.Link.answers c.loop.link;
            sent = g.L.Link.sent c.loop.link;
            state = state_of g.D.Disk.history c.loop.node;
          })
          (record {
            times = g.K.Clock.times c.turn.new.clock;
            answers = g.L.Link.answers c.turn.new.link;
            sent = g.L.Link.sent c.turn.new.link;
            state = state_of g.D.Disk.history c.turn.new.node;
          })
          c.loop.timer c.turn.new.timer c.loop.served c.turn.new.served c.loop.node.journal.bound i.bound i.going
          c.in_ok-turn.ensures.goes_on;
      taken = taken_more (g.K.Clock.times c.args.clock.now) (g.K.Clock.times c.loop.clock)
          (g.K.Clock.times c.turn.new.clock) c.loop.counter i.taken c.turn.ensures.taken;
      later = omega (arith, i.later, c.turn.ensures.later);
      faults = omega (arith, i.faults, c.turn.ensures.faults);
      second = c.turn.ensures.second ∙ i.second;
      bound = c.turn.ensures.bound ∙ i.bound;
      room = grind (arith, common_steps);
      turns = c.turn.ensures.turns ∙ i.turns;
    }

pub returns-in_err-turn-clause-stops : goal.returns-in_err-turn-clause-stops
returns-in_err-turn-clause-stops g c =
    let i = c.loop.invariant in
    let q = err_from_is_err_and c.from_residual.result c.from_residual.ensures.1 in
    rw (q.1, q.2)
    (then_stops g.C.Core.step c.args.node.now.journal.bound
    (record {
      times = g.K.Clock.times c.args.clock.now;
      answers = g.L.Link.answers c.args.link.now;
      sent = g.L.Link.sent c.args.link.now;
      state = state_of g.D.Disk.history c.args.node.now;
    })
    (record {
      times = g.K.Clock.times c.loop.clock;
      answers = g.L.Link.answers c.loop.link;
      sent = g.L.Link.sent c.loop.link;
      state = state_of g.D.Disk.history c.loop.node;
    })
    (record {
      times = g.K.Clock.times c.turn.new.clock;
      answers = g.L.Link.answers c.turn.new.link;
      sent = g.L.Link.sent c.turn.new.link;
      state = state_of g.D.Disk.history c.turn.new.node;
    })
    c.loop.timer c.turn.new.timer c.loop.served c.turn.new.served c.loop.node.journal.bound i.bound i.going
    c.in_err-turn.field-0.0 c.in_err-turn.ensures.stops)

pub returns-clause-served : goal.returns-clause-served
returns-clause-served g c =
    serves_all g.C.Core.step c.args.node.now.journal.bound
    (record {
      times = g.K.Clock.times c.args.clock.now;
      answers = g.L.Link.answers c.args.link.now;
      sent = g.L.Link.sent c.args.link.now;
      state = state_of g.D.Disk.history c.args.node.now;
    })
    (record {
      times = g.K.Clock.times c.loop.clock;
      answers = g.L.Link.answers c.loop.link;
      sent = g.L.Link.sent c.loop.link;
      state = state_of g.D.Disk.history c.loop.node;
    })
    c.loop.timer c.loop.served c.loop.invariant.going
