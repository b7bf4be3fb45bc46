use Rattle.ananta_top.specs.Answers.{answered}
use Rattle.ananta_top.specs.Words.{given, job_of}
use Rattle.ananta_top.proofs.Ends.{complete, keeps_out, line_told, node_ends, status_by, stays_away, stops_short, taken}
use Rattle.ananta_top.proofs.top.run.Goals as goal

pub returns-clause-node : goal.returns-clause-node
returns-clause-node g c =
    rw (c.status_of.ensures)
    (node_ends (answered c.args.words.now) (g.C.Clock.times c.args.clock.now)
    (g.C.Clock.times c.perform-ending.new.clock) (g.H.Host.calls c.args.host.now)
    (g.H.Host.calls c.perform-ending.new.host) (g.K.Sink.written c.args.out.now)
    (g.K.Sink.written c.perform-ending.new.out) (g.K.Sink.faults c.args.err.now) (g.K.Sink.faults c.report.new.err)
    (g.K.Sink.written c.args.err.now) (g.K.Sink.written c.report.new.err) c.perform-ending.result
    (given c.args.words.now (g.S.Source.left c.args.input.now))
    (taken _ _ c.report.result c.report.ensures.ok c.report.ensures.err) c.perform-ending.ensures.node)

pub returns-clause-complete : goal.returns-clause-complete
returns-clause-complete g c =
    rw (c.status_of.ensures)
    (complete (job_of c.args.words.now) (given c.args.words.now (g.S.Source.left c.args.input.now))
    c.perform-ending.result (g.S.Source.faults c.args.input.now) (g.S.Source.faults c.perform-ending.new.input)
    (g.K.Sink.faults c.args.out.now) (g.K.Sink.faults c.perform-ending.new.out) c.perform-ending.ensures.usage.0
    c.perform-ending.ensures.read c.perform-ending.ensures.write c.perform-ending.ensures.long
    c.perform-ending.ensures.first c.perform-ending.ensures.kind)

pub returns-clause-kind : goal.returns-clause-kind
returns-clause-kind g c =
    rw (c.status_of.ensures)
    (status_by (job_of c.args.words.now) c.perform-ending.result c.perform-ending.ensures.kind)

pub returns-clause-told : goal.returns-clause-told
returns-clause-told g c = λ sure.
    rw (c.status_of.ensures)
    (line_told (answered c.args.words.now) (given c.args.words.now (g.S.Source.left c.args.input.now))
    c.perform-ending.result (g.K.Sink.written c.args.err.now) (g.K.Sink.written c.report.new.err)
    (taken _ _ c.report.result c.report.ensures.ok c.report.ensures.err sure) c.perform-ending.ensures.first
    c.perform-ending.ensures.damage)

pub returns-clause-host : goal.returns-clause-host
returns-clause-host g c = λ away.
    c.perform-ending.ensures.host
    (stays_away (job_of c.args.words.now) c.perform-ending.result (rw (c.status_of.ensures) at away))

pub returns-clause-clock : goal.returns-clause-clock
returns-clause-clock g c = λ away.
    c.perform-ending.ensures.clock
    (stays_away (job_of c.args.words.now) c.perform-ending.result (rw (c.status_of.ensures) at away))

pub returns-clause-stopped : goal.returns-clause-stopped
returns-clause-stopped g c = λ short.
    c.perform-ending.ensures.stopped
    (stops_short (job_of c.args.words.now) c.perform-ending.result (rw (c.status_of.ensures) at short))

pub returns-clause-kept : goal.returns-clause-kept
returns-clause-kept g c = λ none.
    c.perform-ending.ensures.kept
    (keeps_out (job_of c.args.words.now) c.perform-ending.result (rw (c.status_of.ensures) at none))
