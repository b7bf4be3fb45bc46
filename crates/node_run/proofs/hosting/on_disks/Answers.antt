use Rattle.std.proofs.Common.{rules, ap}
use Rattle.node_run.specs.Serving.{state_of}
use Rattle.node_run.proofs.Hosts.{goes_opened, goes_unopened}
use Rattle.node_run.proofs.hosting.on_disks.Goals as goal

pub returns-in-Err-clause-calls : goal.returns-in-Err-clause-calls
returns-in-Err-clause-calls g c =
    goes_unopened g.C.Core.step g.C.Core.opened c.args.cfg.now c.args.who c.args.turns
    (g.K.Clock.times c.args.clock.now) (g.H.Host.calls c.args.host.now) (g.H.D.Disk.history c.args.a)
    (g.H.D.Disk.history c.in-Err.field-0.a) c.in-Err.field-0.fault c.of_fault.result
    (g.H.D.Disk.faults c.args.a) (g.H.D.Disk.faults c.in-Err.field-0.a) c.of_fault.ensures c.in-Err.ensures.fault
    c.in-Err.ensures.still

pub returns-in-Ok-clause-calls : goal.returns-in-Ok-clause-calls
returns-in-Ok-clause-calls g c =
    goes_opened g.C.Core.step g.C.Core.opened c.args.cfg.now c.args.who c.args.turns
    (g.K.Clock.times c.args.clock.now) (g.H.Host.calls c.args.host.now) (g.H.Host.calls c.on_link-ending.new.host)
    (g.K.Clock.times c.on_link-ending.new.clock) (g.H.D.Disk.history c.args.a)
    (g.H.D.Disk.history c.in-Ok.node.journal.first) c.on_link-ending.result c.in-Ok.node.core
    c.in-Ok.node.journal.length (state_of g.H.D.Disk.history c.on_link-ending.new.node) c.unwrap-at.result
    c.in-Ok.ensures.with c.in-Ok.ensures.still (search rules) c.on_link-ending.ensures.calls
    (g.H.D.Disk.history c.crash-a.result.0) (ap (λ p. g.H.D.Disk.history p.0) c.crash-a.ensures)
