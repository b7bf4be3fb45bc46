use Rattle.std.proofs.Common.{ap}
use Rattle.node_run.proofs.serving.step.Goals as goal

pub returns-in-Err-clause-not_done : goal.returns-in-Err-clause-not_done
returns-in-Err-clause-not_done g c = record {
  silent = ap g.L.Link.sent c.in-Err.ensures.silent;
  moments = c.in-Err.ensures.moments;
  faults = g.D.Disk.faults c.args.node.now.journal.first;
  faults_now = g.D.Disk.faults c.handle.new.self.journal.first;
  fails = c.in-Err.ensures.fault;
}
