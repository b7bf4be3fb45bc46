use Rattle.std.proofs.Common.{rules, ap}
use Rattle.node_run.proofs.Hosts.{goes_nowhere, goes_over, goes_unnamed, goes_without}
use Rattle.node_run.proofs.hosting.serve_on.Goals as goal

pub returns-in-Err-clause-calls : goal.returns-in-Err-clause-calls
returns-in-Err-clause-calls g c =
    goes_unnamed g.C.Core.step g.C.Core.opened c.args.cfg.now c.args.who c.args.turns
    (g.K.Clock.times c.args.clock.now) (g.H.Host.calls c.args.host.now)

pub returns-in-Err-open_disk-clause-calls : goal.returns-in-Err-open_disk-clause-calls
returns-in-Err-open_disk-clause-calls g c =
    goes_nowhere g.C.Core.step g.C.Core.opened c.args.cfg.now c.args.who c.args.turns
    (g.K.Clock.times c.args.clock.now) (g.H.Host.calls c.args.host.now) (g.H.Host.calls c.open_disk.new.self)
    c.deref.result.now (search rules) c.in-Err-open_disk.ensures.told

pub returns-in-Err-open_disk-2-clause-calls : goal.returns-in-Err-open_disk-2-clause-calls
returns-in-Err-open_disk-2-clause-calls g c =
    goes_without g.C.Core.step g.C.Core.opened c.args.cfg.now c.args.who c.args.turns
    (g.K.Clock.times c.args.clock.now) (g.H.D.Disk.history c.in-Ok-open_disk.a) (g.H.Host.calls c.args.host.now)
    (g.H.Host.calls c.open_disk.new.self) (g.H.Host.calls c.open_disk-2.new.self) (g.H.Host.calls c.back_disk.new.self)
    c.deref.result.now c.deref-2.result.now (search rules) (search rules) c.in-Ok-open_disk.ensures.told
    c.in-Err-open_disk-2.ensures.told c.back_disk.ensures.told

pub returns-clause-calls : goal.returns-clause-calls
returns-clause-calls g c =
    goes_over g.C.Core.step g.C.Core.opened c.args.cfg.now c.args.who c.args.turns
    (g.K.Clock.times c.args.clock.now) (g.K.Clock.times c.on_disks-ending.new.clock) c.on_disks-ending.result.0
    (g.H.D.Disk.history c.in-Ok-open_disk.a) (g.H.D.Disk.history c.on_disks-ending.result.1)
    (g.H.D.Disk.history c.in-Ok-open_disk-2.b) (g.H.Host.calls c.args.host.now) (g.H.Host.calls c.open_disk.new.self)
    (g.H.Host.calls c.open_disk-2.new.self) (g.H.Host.calls c.on_disks-ending.new.host)
    (g.H.Host.calls c.back_disk-2.new.self) (g.H.Host.calls c.back_disk-3.new.self)
    c.deref.result.now c.deref-2.result.now (search rules) (search rules) c.in-Ok-open_disk.ensures.told
    c.in-Ok-open_disk-2.ensures.told c.on_disks-ending.ensures.calls c.back_disk-2.ensures.told
    (g.H.D.Disk.history c.on_disks-ending.result.2) (ap g.H.D.Disk.history c.on_disks-ending.ensures.second)
    c.back_disk-3.ensures.told
