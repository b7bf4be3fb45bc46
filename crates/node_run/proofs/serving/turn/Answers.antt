use Rattle.std.proofs.Common.{Bool, refl, sym, ap, ◌∙◌, take}
use Rattle.node_run.specs.Serving.{state_of}
use Rattle.node_run.proofs.Goes.{answer_goes, answer_stops, idle_goes, if_err, link_stops, on_ok, tick_goes, tick_stops}
use Rattle.node_run.proofs.Told.{taken_one}
use Rattle.node_run.proofs.serving.turn.Goals as goal

pub returns-then-due-clause-goes_on : goal.returns-then-due-clause-goes_on
returns-then-due-clause-goes_on g c =
    on_ok c.step.result c.step.ensures.done
    (tick_goes g.C.Core.step c.args.node.now.journal.bound
    (record {
      times = g.K.Clock.times c.args.clock.now;
      answers = g.L.Link.answers c.args.link.now;
      sent = g.L.Link.sent c.args.link.now;
      state = state_of g.D.Disk.history c.args.node.now;
    })
    (record {
      times = g.K.Clock.times c.now.new.self;
      answers = g.L.Link.answers c.step.new.link;
      sent = g.L.Link.sent c.step.new.link;
      state = state_of g.D.Disk.history c.step.new.node;
    })
    c.args.timer.now c.is_due-due.new.self c.now.result c.args.served.now c.step.new.served c.now.ensures.told
    c.time-now.result c.time-now.ensures
    (sym c.is_due-due.ensures ∙ ap (λ (b : Bool). (c.is_due-due.new.self, b)) c.if-due.true)
    c.step.ensures.answers)

pub returns-then-due-clause-stops : goal.returns-then-due-clause-stops
returns-then-due-clause-stops g c =
    if_err c.step.result c.step.ensures.not_done
    (λ e isnt. tick_stops g.C.Core.step c.args.node.now.journal.bound
    (record {
      times = g.K.Clock.times c.args.clock.now;
      answers = g.L.Link.answers c.args.link.now;
      sent = g.L.Link.sent c.args.link.now;
      state = state_of g.D.Disk.history c.args.node.now;
    })
    (record {
      times = g.K.Clock.times c.now.new.self;
      answers = g.L.Link.answers c.step.new.link;
      sent = g.L.Link.sent c.step.new.link;
      state = state_of g.D.Disk.history c.step.new.node;
    })
    c.args.timer.now c.is_due-due.new.self c.now.result c.args.served.now c.step.new.served c.now.ensures.told
    c.time-now.result e c.time-now.ensures
    (sym c.is_due-due.ensures ∙ ap (λ (b : Bool). (c.is_due-due.new.self, b)) c.if-due.true)
    c.step.ensures.answers isnt)

pub returns-in-Err-clause-stops : goal.returns-in-Err-clause-stops
returns-in-Err-clause-stops g c =
    link_stops g.C.Core.step c.args.node.now.journal.bound
    (record {
      times = g.K.Clock.times c.args.clock.now;
      answers = g.L.Link.answers c.args.link.now;
      sent = g.L.Link.sent c.args.link.now;
      state = state_of g.D.Disk.history c.args.node.now;
    })
    (record {
      times = g.K.Clock.times c.now.new.self;
      answers = g.L.Link.answers c.next.new.self;
      sent = g.L.Link.sent c.next.new.self;
      state = state_of g.D.Disk.history c.args.node.now;
    })
    c.args.timer.now c.is_due-due.new.self c.now.result c.args.served.now c.args.served.now c.now.ensures.told
    c.in-Err.field-0
    (sym c.is_due-due.ensures ∙ ap (λ (b : Bool). (c.is_due-due.new.self, b)) c.if-due.false)
    c.in-Err.ensures.told c.in-Err.ensures.sent refl

pub returns-in-Ok-None-clause-goes_on : goal.returns-in-Ok-None-clause-goes_on
returns-in-Ok-None-clause-goes_on g c =
    idle_goes g.C.Core.step c.args.node.now.journal.bound
    (record {
      times = g.K.Clock.times c.args.clock.now;
      answers = g.L.Link.answers c.args.link.now;
      sent = g.L.Link.sent c.args.link.now;
      state = state_of g.D.Disk.history c.args.node.now;
    })
    (record {
      times = g.K.Clock.times c.now.new.self;
      answers = g.L.Link.answers c.next.new.self;
      sent = g.L.Link.sent c.next.new.self;
      state = state_of g.D.Disk.history c.args.node.now;
    })
    c.args.timer.now c.is_due-due.new.self c.now.result c.args.served.now c.args.served.now c.now.ensures.told
    (sym c.is_due-due.ensures ∙ ap (λ (b : Bool). (c.is_due-due.new.self, b)) c.if-due.false)
    (rw c.in-Ok-None.field-0-is at c.in-Ok-None.ensures.told) c.in-Ok-None.ensures.sent refl

pub returns-in-Ok-Some-clause-goes_on : goal.returns-in-Ok-Some-clause-goes_on
returns-in-Ok-Some-clause-goes_on g c =
    on_ok c.step-in-Ok-Some.result c.step-in-Ok-Some.ensures.done
    (answer_goes g.C.Core.step c.args.node.now.journal.bound
    (record {
      times = g.K.Clock.times c.args.clock.now;
      answers = g.L.Link.answers c.args.link.now;
      sent = g.L.Link.sent c.args.link.now;
      state = state_of g.D.Disk.history c.args.node.now;
    })
    (record {
      times = g.K.Clock.times c.now.new.self;
      answers = g.L.Link.answers c.step-in-Ok-Some.new.link;
      sent = g.L.Link.sent c.step-in-Ok-Some.new.link;
      state = state_of g.D.Disk.history c.step-in-Ok-Some.new.node;
    })
    c.args.timer.now c.is_due-due.new.self c.now.result c.args.served.now c.step-in-Ok-Some.new.served
    c.now.ensures.told
    (record { from = c.in-Ok-Some.arrival.from; bytes = take c.in-Ok-Some.arrival.len c.next.new.buf })
    (g.L.Link.answers c.next.new.self) (g.L.Link.sent c.next.new.self)
    (sym c.is_due-due.ensures ∙ ap (λ (b : Bool). (c.is_due-due.new.self, b)) c.if-due.false)
    (rw c.in-Ok-Some.field-0-is at c.in-Ok-Some.ensures.told) c.in-Ok-Some.ensures.sent
    c.step-in-Ok-Some.ensures.answers)

pub returns-in-Ok-Some-clause-stops : goal.returns-in-Ok-Some-clause-stops
returns-in-Ok-Some-clause-stops g c =
    if_err c.step-in-Ok-Some.result c.step-in-Ok-Some.ensures.not_done
    (λ e isnt. answer_stops g.C.Core.step c.args.node.now.journal.bound
    (record {
      times = g.K.Clock.times c.args.clock.now;
      answers = g.L.Link.answers c.args.link.now;
      sent = g.L.Link.sent c.args.link.now;
      state = state_of g.D.Disk.history c.args.node.now;
    })
    (record {
      times = g.K.Clock.times c.now.new.self;
      answers = g.L.Link.answers c.step-in-Ok-Some.new.link;
      sent = g.L.Link.sent c.step-in-Ok-Some.new.link;
      state = state_of g.D.Disk.history c.step-in-Ok-Some.new.node;
    })
    c.args.timer.now c.is_due-due.new.self c.now.result c.args.served.now c.step-in-Ok-Some.new.served
    c.now.ensures.told e
    (record { from = c.in-Ok-Some.arrival.from; bytes = take c.in-Ok-Some.arrival.len c.next.new.buf })
    (g.L.Link.answers c.next.new.self) (g.L.Link.sent c.next.new.self)
    (sym c.is_due-due.ensures ∙ ap (λ (b : Bool). (c.is_due-due.new.self, b)) c.if-due.false)
    (rw c.in-Ok-Some.field-0-is at c.in-Ok-Some.ensures.told) c.in-Ok-Some.ensures.sent
    c.step-in-Ok-Some.ensures.answers isnt)

pub returns-then-due-clause-taken : goal.returns-then-due-clause-taken
returns-then-due-clause-taken g c =
    taken_one (g.K.Clock.times c.args.clock.now) (g.K.Clock.times c.now.new.self) c.now.result c.now.ensures.told

pub returns-in-Err-clause-taken : goal.returns-in-Err-clause-taken
returns-in-Err-clause-taken g c =
    taken_one (g.K.Clock.times c.args.clock.now) (g.K.Clock.times c.now.new.self) c.now.result c.now.ensures.told

pub returns-in-Ok-None-clause-taken : goal.returns-in-Ok-None-clause-taken
returns-in-Ok-None-clause-taken g c =
    taken_one (g.K.Clock.times c.args.clock.now) (g.K.Clock.times c.now.new.self) c.now.result c.now.ensures.told

pub returns-in-Ok-Some-clause-taken : goal.returns-in-Ok-Some-clause-taken
returns-in-Ok-Some-clause-taken g c =
    taken_one (g.K.Clock.times c.args.clock.now) (g.K.Clock.times c.now.new.self) c.now.result c.now.ensures.told
