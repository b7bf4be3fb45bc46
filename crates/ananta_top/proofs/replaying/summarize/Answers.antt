use Rattle.ananta_top.specs.Answers.{answer}
use Rattle.ananta_top.specs.declared.words.Job.TheVariants.{Summary}
use Rattle.ananta_top.proofs.Replayed as replayed
use Rattle.ananta_top.proofs.replaying.summarize.Goals as goal

pub returns-clause-done : goal.returns-clause-done
returns-clause-done g c =
    replayed.done (g.K.Sink.written c.args.out.now) (g.K.Sink.written c.write_summary.new.out)
    (g.K.Sink.faults c.args.out.now) (g.K.Sink.faults c.write_summary.new.out) c.args.text.now
    (answer Summary c.args.text.now) c.write_summary.result c.write_summary.ensures.replays

pub returns-clause-room : goal.returns-clause-room
returns-clause-room g c =
    replayed.room (g.K.Sink.written c.args.out.now) (g.K.Sink.written c.write_summary.new.out)
    (g.K.Sink.faults c.args.out.now) (g.K.Sink.faults c.write_summary.new.out) c.args.text.now
    (answer Summary c.args.text.now) c.write_summary.result c.write_summary.ensures.replays

pub returns-clause-safe : goal.returns-clause-safe
returns-clause-safe g c =
    replayed.safe (g.K.Sink.written c.args.out.now) (g.K.Sink.written c.write_summary.new.out)
    (g.K.Sink.faults c.args.out.now) (g.K.Sink.faults c.write_summary.new.out) c.args.text.now
    (answer Summary c.args.text.now) c.write_summary.result c.write_summary.ensures.replays

pub returns-clause-first : goal.returns-clause-first
returns-clause-first g c =
    replayed.first (g.K.Sink.written c.args.out.now) (g.K.Sink.written c.write_summary.new.out)
    (g.K.Sink.faults c.args.out.now) (g.K.Sink.faults c.write_summary.new.out) c.args.text.now
    (answer Summary c.args.text.now) c.write_summary.result c.write_summary.ensures.replays

pub returns-clause-damage : goal.returns-clause-damage
returns-clause-damage g c =
    replayed.damage (g.K.Sink.written c.args.out.now) (g.K.Sink.written c.write_summary.new.out)
    (g.K.Sink.faults c.args.out.now) (g.K.Sink.faults c.write_summary.new.out) c.args.text.now
    (answer Summary c.args.text.now) c.write_summary.result c.write_summary.ensures.replays

pub returns-clause-write : goal.returns-clause-write
returns-clause-write g c =
    replayed.fault (g.K.Sink.written c.args.out.now) (g.K.Sink.written c.write_summary.new.out)
    (g.K.Sink.faults c.args.out.now) (g.K.Sink.faults c.write_summary.new.out) c.args.text.now
    (answer Summary c.args.text.now) c.write_summary.result c.write_summary.ensures.replays

pub returns-clause-front : goal.returns-clause-front
returns-clause-front g c =
    replayed.front (g.K.Sink.written c.args.out.now) (g.K.Sink.written c.write_summary.new.out)
    (g.K.Sink.faults c.args.out.now) (g.K.Sink.faults c.write_summary.new.out) c.args.text.now
    (answer Summary c.args.text.now) c.write_summary.result c.write_summary.ensures.replays

pub returns-clause-stopped : goal.returns-clause-stopped
returns-clause-stopped g c =
    replayed.stopped (g.K.Sink.written c.args.out.now) (g.K.Sink.written c.write_summary.new.out)
    (g.K.Sink.faults c.args.out.now) (g.K.Sink.faults c.write_summary.new.out) c.args.text.now
    (answer Summary c.args.text.now) c.write_summary.result c.write_summary.ensures.replays

pub returns-clause-full : goal.returns-clause-full
returns-clause-full g c =
    replayed.fills (g.K.Sink.written c.args.out.now) (g.K.Sink.written c.write_summary.new.out)
    (g.K.Sink.faults c.args.out.now) (g.K.Sink.faults c.write_summary.new.out) c.args.text.now
    (answer Summary c.args.text.now) c.write_summary.result c.write_summary.ensures.replays

pub returns-clause-causes : goal.returns-clause-causes
returns-clause-causes g c =
    replayed.causes (g.K.Sink.written c.args.out.now) (g.K.Sink.written c.write_summary.new.out)
    (g.K.Sink.faults c.args.out.now) (g.K.Sink.faults c.write_summary.new.out) c.args.text.now
    (answer Summary c.args.text.now) c.write_summary.result c.write_summary.ensures.replays
