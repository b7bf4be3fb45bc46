use Rattle.ananta_top.proofs.Schedules.{front_on, no_schedule, room_on, safe_on, stops_on, written_on}
use Rattle.ananta_top.proofs.replaying.write_nodes.Goals as goal

pub returns-clause-written : goal.returns-clause-written
returns-clause-written g c =
    written_on c.args.text.now (g.K.Sink.written c.args.out.now) (g.K.Sink.written c.write_lines.new.out)
    (g.K.Sink.faults c.args.out.now) (g.K.Sink.faults c.write_lines.new.out) c.write_lines.result c.requires.plain
    c.write_lines.ensures.answer

pub returns-clause-room : goal.returns-clause-room
returns-clause-room g c =
    room_on c.args.text.now (g.K.Sink.written c.args.out.now) (g.K.Sink.written c.write_lines.new.out)
    (g.K.Sink.faults c.args.out.now) (g.K.Sink.faults c.write_lines.new.out) c.write_lines.result c.requires.plain
    c.write_lines.ensures.answer

pub returns-clause-stops : goal.returns-clause-stops
returns-clause-stops g c =
    stops_on c.args.text.now (g.K.Sink.written c.args.out.now) (g.K.Sink.written c.write_lines.new.out)
    (g.K.Sink.faults c.args.out.now) (g.K.Sink.faults c.write_lines.new.out) c.write_lines.result c.requires.plain
    c.write_lines.ensures.answer

pub returns-clause-safe : goal.returns-clause-safe
returns-clause-safe g c = safe_on c.args.text.now c.write_lines.result c.requires.plain c.write_lines.ensures.safe

pub returns-clause-front : goal.returns-clause-front
returns-clause-front g c =
    front_on c.args.text.now (g.K.Sink.written c.args.out.now) (g.K.Sink.written c.write_lines.new.out)
    c.requires.plain c.write_lines.ensures.front

pub returns-clause-nothing : goal.returns-clause-nothing
returns-clause-nothing g c = λ none.
    c.write_lines.ensures.nothing (no_schedule c.args.text.now c.requires.plain none)
