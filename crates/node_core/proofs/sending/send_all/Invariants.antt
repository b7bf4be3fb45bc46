use Rattle.std.proofs.Common.{◌≤◌, take, ◌≡◌}
use Rattle.node_core.specs.Sending.{Handed}
use Rattle.node_core.proofs.sending.send_all.Given as goal

abbrev pub invariant-loop-send : goal.invariant-loop-send
invariant-loop-send g l = record {
  told : Handed (g.L.Link.sent l.initial.link) (g.L.Link.sent l.link) (take l.send-index l.sends) l.lost;
  few : l.lost ≤ l.send-index;
  answers : g.L.Link.answers l.link ≡ g.L.Link.answers l.initial.link;
  next_faults : g.L.Link.next_faults l.link ≡ g.L.Link.next_faults l.initial.link;
  later : g.L.Link.send_faults l.initial.link ≤ g.L.Link.send_faults l.link;
}
