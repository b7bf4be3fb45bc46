use Rattle.std.proofs.Common.{◌≡◌, ◌<◌, ◌≤◌, ◌+◌, ◌-◌, length}
use Rattle.journal.specs.Journal.{journal_length}
use Rattle.journal.proofs.Loads.{Loading}
use Rattle.journal.proofs.reading.load.Given as goal

abbrev pub invariant-loop-bodies : goal.invariant-loop-bodies
invariant-loop-bodies g l = record {
  same : g.D.Disk.history l.disk ≡ g.D.Disk.history l.fn.disk;
  later : g.D.Disk.faults l.fn.disk ≤ g.D.Disk.faults l.disk;
  long : length l.room ≡ length l.fn.room;
  fits : l.at < 4294967295;
  end : l.at + 1 ≡ journal_length l.bodies;
  so_far : Loading (g.D.Disk.history l.fn.disk) l.bound l.at l.bodies;
}

abbrev pub decreases-loop-bodies : goal.decreases-loop-bodies
decreases-loop-bodies g l = l.bound - l.at
