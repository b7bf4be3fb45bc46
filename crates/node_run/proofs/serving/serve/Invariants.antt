use Rattle.std.proofs.Common.{◌≡◌, ◌≤◌, length, true}
use Rattle.node_core.specs.Handling.{is_ready}
use Rattle.node_run.specs.Going.{Going}
use Rattle.node_run.specs.Serving.{Taken, state_of}
use Rattle.node_run.proofs.serving.serve.Given as goal

abbrev pub invariant-loop : goal.invariant-loop
invariant-loop g l = record {
  live : is_ready l.node ≡ true;
  going : Going g.C.Core.step l.initial.node.journal.bound
      (record {
        times = g.K.Clock.times l.initial.clock;
        answers = g.L.Link.answers l.initial.link;
        sent = g.L.Link.sent l.initial.link;
        state = state_of g.D.Disk.history l.initial.node;
      })
      (record {
        times = g.K.Clock.times l.clock;
        answers = g.L.Link.answers l.link;
        sent = g.L.Link.sent l.link;
        state = state_of g.D.Disk.history l.node;
      })
      l.timer l.served;
  taken : Taken l.counter (g.K.Clock.times l.initial.clock) (g.K.Clock.times l.clock);
  later : g.L.Link.next_faults l.initial.link ≤ g.L.Link.next_faults l.link;
  faults : g.D.Disk.faults l.initial.node.journal.first ≤ g.D.Disk.faults l.node.journal.first;
  second : l.node.journal.second ≡ l.initial.node.journal.second;
  bound : l.node.journal.bound ≡ l.initial.node.journal.bound;
  room : length l.buf.items ≡ 65507;
  turns : l.served.turns ≡ l.turns;
}
